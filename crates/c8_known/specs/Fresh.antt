-- Which part of a run of inputs is new, and why a run is refused.
use Rattle.std.specs.Prelude.{ℕ, ◌+◌, ◌-◌, ◌==◌, ◌&&◌, ◌||◌, List, [], ◌∷◌, length, drop, Bool, false, not, nat_lt, Option, Some, None, if◌then◌else◌}
use Rattle.c8_known.specs.Known.{KnownValue, player_in, count_in, is_frozen_in}
use Rattle.c8_known.specs.declared.error.KnownError.{KnownError}
use Rattle.c8_known.specs.declared.error.KnownError.TheVariants as errors

-- two lists differ at a place where both have an input
unfoldable pub differ : List ℕ → List ℕ → Bool
differ [] others = false
differ (input ∷ inputs) [] = false
differ (input ∷ inputs) (other ∷ others) = not (input == other) || differ inputs others

-- a frozen player sends its own inputs, which no longer count from it
abbrev pub is_from_leaver : KnownValue → ℕ → ℕ → Bool
is_from_leaver k player teller = teller == player && is_frozen_in k player

-- Why a player's inputs from a start on cannot be held; None if they can.
abbrev pub misfit : KnownValue → ℕ → ℕ → List ℕ → Option KnownError
misfit k player start words =
    if nat_lt k.limit (start + length words) then Some errors.Full
    else (if nat_lt (count_in k player) start then Some errors.Gap
    else (if differ (drop start (player_in k player).held) words then Some errors.Differs
    else None))

-- why inputs from a player are refused; None if they are not
unfoldable pub refusal : KnownValue → ℕ → ℕ → ℕ → List ℕ → Option KnownError
refusal k player teller start words = if is_from_leaver k player teller then Some errors.FromLeaver else misfit k player start words

-- the part that is not held yet
abbrev pub fresh_words : KnownValue → ℕ → ℕ → List ℕ → List ℕ
fresh_words k player start words = drop (count_in k player - start) words
