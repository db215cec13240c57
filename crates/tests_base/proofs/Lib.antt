mod TestPlaces
