mod Answering
mod KeysErased
mod Numbered
mod Trying
