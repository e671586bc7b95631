-- Rules in range can be written out, field by field and then the program's code.
use Rattle.c8_game.proofs.TextExists.{text_exists}
use Rattle.c8_game.proofs.laws.every_game_has_a_text.Goals as goal

pub returns : goal.returns
returns c = text_exists
