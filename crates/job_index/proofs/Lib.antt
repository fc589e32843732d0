pub mod KeyLists
pub mod PutKeys
pub mod SortedKeys
pub mod TextNumbers
