mod TurnLaws
