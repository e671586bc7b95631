-- What is counted of a turn.
use Rattle.std.specs.Prelude.{◌+◌, ◌-◌, ◌^◌, ℕ, min}
use Rattle.c8_relay.specs.declared.sitting.Cause.{Cause}
use Rattle.c8_relay.specs.declared.sitting.Cause.TheVariants.{Unknown, Stranger, Nobody, TooFast, Crowd}
use Rattle.c8_relay.specs.declared.turning.Turned.{Turned}
use Rattle.c8_relay.specs.declared.turning.Turned.TheVariants.{Idle, Carried, Answered, Dropped}
use Rattle.c8_udp.specs.declared.counts.Counts.{Counts}

abbrev pub one_more : ℕ → ℕ
one_more n = min (n + 1) (2 ^ 64 - 1)

-- a packet that is dropped counts by its cause
abbrev pub dropped : Counts → Cause → Counts
dropped counts Unknown = record counts { unknown = one_more counts.unknown }
dropped counts Stranger = record counts { stranger = one_more counts.stranger }
dropped counts Nobody = record counts { nobody = one_more counts.nobody }
dropped counts TooFast = record counts { fast = one_more counts.fast }
dropped counts Crowd = record counts { crowd = one_more counts.crowd }

abbrev pub counted : Counts → Turned → Counts
counted counts Idle = counts
counted counts Carried = record counts { carried = one_more counts.carried }
counted counts Answered = record counts { answered = one_more counts.answered }
counted counts (Dropped cause) = dropped counts cause
