mod KeysKept
mod Lengths
mod Padding
