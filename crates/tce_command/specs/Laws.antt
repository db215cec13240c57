-- A law of commands.
use Rattle.std.specs.Prelude.{◌≡◌, ℕ, List}
use Rattle.tce_command.specs.Command.{Command, IsCommand}

-- words are those of one command at most
abbrev pub WordsAreOneCommand : Type 0
WordsAreOneCommand = (words : List (List ℕ)) (command other : Command) → IsCommand words command → IsCommand words other → other ≡ command
