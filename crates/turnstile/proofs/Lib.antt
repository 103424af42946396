mod OneView
mod TurnMoves
mod Seats
