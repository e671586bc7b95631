-- Whatever was read before, the signal that a byte gives is of a key of the keypad or of none.
use Rattle.c8_terminal.specs.Decoder.{numbers_of}
use Rattle.c8_terminal.specs.Decoding as decoding
use Rattle.c8_terminal.proofs.DecodingLemmas.{of_keypad_in}
use Rattle.c8_terminal.proofs.decoder.Decoder.take.Goals as goal

pub returns-in-Ready-clause-keys : goal.returns-in-Ready-clause-keys
returns-in-Ready-clause-keys c = of_keypad_in decoding.Nothing c.args.byte c.args.self.now.exact c.alone.result c.alone.ensures.told

pub returns-in-Escape-clause-keys : goal.returns-in-Escape-clause-keys
returns-in-Escape-clause-keys c = of_keypad_in decoding.Escape c.args.byte c.args.self.now.exact c.escaped.result c.escaped.ensures.told

pub returns-in-Single-clause-keys : goal.returns-in-Single-clause-keys
returns-in-Single-clause-keys c = of_keypad_in decoding.Single c.args.byte c.args.self.now.exact c.in_single.result c.in_single.ensures.told

pub returns-in-Control-clause-keys : goal.returns-in-Control-clause-keys
returns-in-Control-clause-keys c = of_keypad_in (decoding.Control (numbers_of c.in-Control.numbers)) c.args.byte c.args.self.now.exact
    c.in_control.result c.in_control.ensures.told

pub returns-in-Answer-clause-keys : goal.returns-in-Answer-clause-keys
returns-in-Answer-clause-keys c = of_keypad_in (decoding.Answer c.in-Answer.flags) c.args.byte c.args.self.now.exact c.in_answer.result
    c.in_answer.ensures.told

pub returns-in-Foreign-clause-keys : goal.returns-in-Foreign-clause-keys
returns-in-Foreign-clause-keys c = of_keypad_in decoding.Foreign c.args.byte c.args.self.now.exact c.in_foreign.result c.in_foreign.ensures.told
