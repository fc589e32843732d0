mod HostsStay
mod Unbooked
