mod WorkedPiece
