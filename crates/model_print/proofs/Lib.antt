mod ReadLines
mod TreesRead
