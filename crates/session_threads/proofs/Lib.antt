mod SmallLists
