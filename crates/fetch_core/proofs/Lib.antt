mod Indexes
mod StoresFetches
