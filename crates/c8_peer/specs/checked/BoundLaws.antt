-- Checked, not believed: numbers that fit into their fields.
use Rattle.std.proofs.Common.{ℕ, ◌<◌, ◌≤◌, ◌^◌, List, ◌++◌, take, arith}
use Rattle.std.specs.Int.{from_be_bytes, to_be_bytes, w64}
use Rattle.sha2.specs.Sha256.{sha256}
use Rattle.c8_game.specs.Rules.{Rules, AreInRange, id_of, session_of}
use Rattle.c8_digest.specs.checked.DigestLaws.{AreBytes, digest_bytes_fit}
use Rattle.c8_digest.specs.checked.OriginLaws.{take_low}
use Rattle.c8_known.specs.Journal.{Record}
use Rattle.c8_known.specs.Known.{KnownValue, known_of}
use Rattle.c8_known.specs.Confirmed.{confirmed}
use Rattle.c8_known.specs.checked.ConfirmedLaws.{confirmed_is}
use Rattle.c8_record.specs.Allowed.{IsJournal}
use Rattle.c8_record.specs.checked.JournalLaws.{journal_known, of_game}

number_low : (bytes : List ℕ) → AreBytes bytes → from_be_bytes w64 bytes < 2 ^ 64
number_low bytes fits =
    let b0 = fits 0 in
    let b1 = fits 1 in
    let b2 = fits 2 in
    let b3 = fits 3 in
    let b4 = fits 4 in
    let b5 = fits 5 in
    let b6 = fits 6 in
    let b7 = fits 7 in
    omega (arith, b0, b1, b2, b3, b4, b5, b6, b7)

-- a session has 8 bytes
pub session_low : (rules : Rules) (room : ℕ) → session_of rules room < 2 ^ 64
session_low rules room =
    let digest : List ℕ = sha256 (id_of rules ++ to_be_bytes w64 room) in
    number_low (take 8 digest) (take_low digest 8 (2 ^ 8) (digest_bytes_fit (id_of rules ++ to_be_bytes w64 room)))

-- no more frames are confirmed than the game has
pub confirmed_frames : (rules : Rules) (me room : ℕ) (journal : List Record) → AreInRange rules → 1 ≤ me → me ≤ rules.players
    → IsJournal rules me room journal → confirmed (known_of rules me journal) ≤ rules.frames
confirmed_frames rules me room journal range from in_game is =
    let k : KnownValue = known_of rules me journal in
    let known = journal_known rules me room journal range from in_game is in
    let game = of_game rules me journal in
    let own = known.own in
    let within = known.within k.me in
    let delay = game.delay in
    let limit = game.limit in
    let ticked = (confirmed_is k).ticked in
    omega (arith, own, within, delay, limit, ticked)
