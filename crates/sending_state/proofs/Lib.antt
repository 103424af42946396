mod Growth
mod KnownIds
mod SweptRows
