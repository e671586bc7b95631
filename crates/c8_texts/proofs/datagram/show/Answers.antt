-- The outcome is that of the first fault: digits, then the datagram; without one it is what was printed.
use Rattle.std.proofs.Common.{◌≡◌, ℕ, List, Result, Ok, Err, IfOk, MatchResult}
use Rattle.hex.specs.Hex.{decode_of}
use Rattle.c8_wire.specs.Lent.{packet_of}
use Rattle.c8_wire.specs.Packet.{Packet}
use Rattle.c8_wire.specs.Spelling.{Spells}
use Rattle.c8_wire.specs.declared.datagram.Datagram.{Datagram}
use Rattle.c8_texts.specs.ShowErrors.{show_part}
use Rattle.c8_texts.specs.Shown.{IsOutcomeOfShow, IsRefusalOfBytes, IsRefusalOfShow}
use Rattle.c8_command.specs.Status.{status_of_outcome}
use Rattle.c8_texts.specs.declared.show_error.ShowError.{ShowError}
use Rattle.c8_texts.specs.declared.show_error.ShowError.TheVariants as errors
use Rattle.c8_command.specs.declared.status.Status.{Status}
use Rattle.c8_texts.proofs.datagram.show.Goals as goal

-- what holds of the status that is answered
told : {T E : Type 0} → (answer : Result T E) (status : T) {Q : T → Type 0} → ((x : T) → x ≡ status → Q x) → IfOk answer (λ x. x ≡ status)
    → IfOk answer Q
told (Ok x) status then same = then x same
told (Err e) status then same = tt

-- if the bytes that a word spells are refused, the word is
of_word : (word bytes : List ℕ) (why : ShowError) → decode_of word ≡ Ok bytes → IsRefusalOfBytes bytes why → IsRefusalOfShow word why
of_word word bytes (errors.Wire error) decoded refused = (bytes, decoded, refused)
of_word word bytes (errors.Hex error) decoded refused = absurd refused

-- the status for the bytes is the status for the word that spells them
told_of : {E : Type 0} → (word bytes : List ℕ) (found : Result Datagram ShowError) (answer : Result Status E) → decode_of word ≡ Ok bytes
    → MatchResult found (λ datagram. Spells bytes (packet_of datagram)) (IsRefusalOfBytes bytes)
    → IfOk answer (λ status. status ≡ status_of_outcome show_part found)
    → IfOk answer (λ status. (outcome : Result Packet ShowError) × IsOutcomeOfShow word outcome × (status ≡ status_of_outcome show_part outcome))
told_of word bytes (Ok datagram) answer decoded spells status =
    told answer _ (λ ended same. (Ok (packet_of datagram), (bytes, decoded, spells), same)) status
told_of word bytes (Err why) answer decoded refused status =
    told answer _ (λ ended same. (Err why, of_word word bytes why decoded refused, same)) status

pub returns-in-Err : goal.returns-in-Err
returns-in-Err g c = told _ _ (λ status same. (Err (errors.Hex c.in-Err.error), c.in-Err.ensures, same)) c.tell-in-Err.ensures

pub returns-in-Ok : goal.returns-in-Ok
returns-in-Ok g c = told_of _ c.in-Ok.bytes.items c.datagram_in.result c.tell.result c.in-Ok.ensures
    (rw c.deref.ensures.value at c.datagram_in.ensures) c.tell.ensures
