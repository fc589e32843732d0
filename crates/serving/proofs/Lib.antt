mod FirstPasses
mod ServeEnds
