mod Chain
mod Marks
