-- What the calls of a handle do to a watcher.
use Rattle.std.specs.Prelude.{ℕ, ◌≡◌, ◌⊎◌, ◌<◌, List, length, true, false, Option, None, Some, Result}
use Rattle.c8_game.specs.Rules.{Rules}
use Rattle.c8_game.specs.GameText.{Spells}
use Rattle.c8_refusals.specs.declared.error.OpenError.TheVariants as opens
use Rattle.c8_spectator.specs.declared.taken.Taken.{Taken}
use Rattle.c8_transport.specs.declared.keys.Secrets.{Secrets}
use Rattle.c8_embed.specs.Watch.{IsNewWatch, HasWatchSealing, HasShown, HasSeen, HasNoSeen}
use Rattle.c8_embed.specs.Any.{AnyEndpoint}
use Rattle.c8_embed.specs.declared.any.Side.TheVariants as sides
use Rattle.c8_embed.specs.declared.watch.Unshown.{Unshown}
use Rattle.c8_embed.specs.declared.watch.WatchEndpoint.{WatchEndpoint}
use Rattle.c8_engine.specs.Codes.{nobody_code, open_code, bad_secret_code, sealed_already_code, shown_code}
use Rattle.c8_engine.specs.Refused.{IsNoGame}

-- ---- opening

-- a new watcher of the game that the text spells, in this seat and room
pub record IsWatchOf (text : List ℕ) (seat room begun : ℕ) (w : WatchEndpoint) : Type 0 where
  pub rules : Rules
  pub game : Spells text rules
  pub watch : IsNewWatch rules room seat begun w

abbrev pub IsWatchWith : List ℕ → ℕ → ℕ → ℕ → Option AnyEndpoint → Type 0
IsWatchWith text seat room begun None = ⊥
IsWatchWith text seat room begun (Some (sides.Player session)) = ⊥
IsWatchWith text seat room begun (Some (sides.Watcher session)) = IsWatchOf text seat room begun session

-- no watcher has the number
pub record IsNoSeat (seat code : ℕ) : Type 0 where
  pub outside : (seat < 5) ⊎ (6 < seat)
  pub code_is : code ≡ nobody_code

-- why there is no watcher
abbrev pub IsNoWatch : List ℕ → ℕ → ℕ → Type 0
IsNoWatch text seat code = IsNoGame text code ⊎ (IsNoSeat seat code ⊎ (code ≡ open_code opens.Memory))

-- ---- calls

pub record HasBeenShown (old : WatchEndpoint) (bytes : List ℕ) (code : ℕ) (new : WatchEndpoint) : Type 0 where
  pub answer : Result Taken Unshown
  pub shown : HasShown old bytes answer new
  pub code_is : code ≡ shown_code answer

-- The first `size` bytes are the packet of this turn's SEEN, which is for player 1; or there is none.
abbrev pub HasAcknowledged : WatchEndpoint → ℕ → ℕ → List ℕ → WatchEndpoint → Type 0
HasAcknowledged w to size out v = (HasSeen w size out v × (to ≡ 1)) ⊎ ((size ≡ 0) × HasNoSeen w v)

-- A watcher has one secret: that of the watchers.
pub record IsWatchSecret (secret watchers : List ℕ) (secrets : Secrets) : Type 0 where
  pub players : secrets.players ≡ None
  pub watchers_is : secrets.watchers ≡ Some secret
  pub alone : length watchers ≡ 0

-- the watcher gets a sealer with its secret, or the code tells why not
abbrev pub HasWatchSecret : WatchEndpoint → List ℕ → List ℕ → ℕ → WatchEndpoint → Type 0
HasWatchSecret w secret watchers code v =
    ((secrets : Secrets) × IsWatchSecret secret watchers secrets × HasWatchSealing w secrets true v × (code ≡ 0))
    ⊎ ((secrets : Secrets) × IsWatchSecret secret watchers secrets × HasWatchSealing w secrets false v × (code ≡ sealed_already_code))
    ⊎ ((0 < length watchers) × (v ≡ w) × (code ≡ bad_secret_code))
