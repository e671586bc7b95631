-- Which keys count as held in a frame, by the signals before it.
use Rattle.std.specs.Prelude.{ℕ, zero, suc, ◌+◌, ◌-◌, ◌==◌, ◌||◌, Bool, true, false, min, max, nat_lt, nat_le, if◌then◌else◌}
use Rattle.c8_terminal.specs.declared.signal.Signal.{Signal}
use Rattle.c8_terminal.specs.declared.signal.Signal.TheVariants.{Struck, Down, Up, LetGo, Quit, Repaint, GiveUp, Help}

-- the state of a key between two frames
pub record Press : Type 0 where
  -- a signal said that the key is down, and none since that it is up
  pub down : Bool
  -- the key went down, or was struck, since the last frame began: no frame has seen it
  pub unseen : Bool
  -- for how many more frames the key counts as held, whether or not it is down
  pub left : ℕ
  -- how many frames began since its last stroke; 46 stands for more, and for none
  pub since : ℕ

abbrev pub no_press : Press
no_press = record { down = false; unseen = false; left = 0; since = 46 }

-- struck: held as long as a stroke holds, or for 6 frames if the last stroke was at most 45 frames ago; never for fewer
-- than before
abbrev pub struck : ℕ → Press → Press
struck hold p =
    record {
      down = p.down;
      unseen = true;
      left = max p.left (if nat_le p.since 45 then 6 else hold);
      since = 0;
    }

-- pressed: held until it is released, and for at least one frame; nothing changes if it is down
abbrev pub pressed : Press → Press
pressed p = if p.down then p else record { down = true; unseen = true; left = max p.left 1; since = p.since }

-- released: held for one more frame if no frame has seen it, else for none
abbrev pub released : Press → Press
released p = record { down = false; unseen = p.unseen; left = if p.unseen then 1 else 0; since = p.since }

-- what a signal does to a key, if a stroke holds for this many frames
abbrev pub noted : ℕ → Signal → ℕ → Press → Press
noted hold (Struck other) key p = if other == key then struck hold p else p
noted hold (Down other) key p = if other == key then pressed p else p
noted hold (Up other) key p = if other == key then released p else p
noted hold LetGo key p = no_press
noted hold Quit key p = p
noted hold Repaint key p = p
noted hold GiveUp key p = p
noted hold Help key p = p

-- the key counts as held in the next frame
abbrev pub is_held : Press → Bool
is_held p = p.down || nat_lt 0 p.left

-- the key after a frame began
abbrev pub after_frame : Press → Press
after_frame p = record { down = p.down; unseen = false; left = p.left - 1; since = min (p.since + 1) 46 }

-- the key after some frames without a signal of it
abbrev pub after_frames : ℕ → Press → Press
after_frames zero p = p
after_frames (suc n) p = after_frames n (after_frame p)
