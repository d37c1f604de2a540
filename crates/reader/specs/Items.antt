-- The reader's items, as the items of the machine file.
use Rattle.std.specs.Prelude.{Result, Ok, Err}
use Rattle.rules.specs.File as file
use Rattle.rules.specs.Rows.{task_words_of, connection_words_of}
use Rattle.rules.specs.Answers.{number_of, place_of}
use Rattle.rules.specs.declared.Refusal.{Refusal}
use Rattle.reader.specs.declared.Item.{Item}
use Rattle.reader.specs.declared.Item.TheVariants as item

-- what the reader sees at a place, as the rules say it
abbrev pub item_is : Result Item Refusal → file.Item
item_is (Ok (item.Task r)) = file.Item.task (task_words_of r)
item_is (Ok (item.Connection r)) = file.Item.connection (connection_words_of r)
item_is (Ok item.End) = file.Item.end
item_is (Err f) = file.Item.refusal (number_of f) (place_of f)
