-- How the ends of the code stand for their values.
use Rattle.std.specs.Prelude.{ℕ, List}
use Rattle.std.specs.Global.{Global}
use Rattle.rtrb.specs.Ring.{sent, known_free, received, known_items, all_sent}
use Rattle.rtrb.specs.declared.AnyItems.{AnyItems}
use Rattle.rtrb.specs.declared.end.End.{End}
use Rattle.rtrb.specs.declared.producer.Producer.{Producer}
use Rattle.rtrb.specs.declared.consumer.Consumer.{Consumer}
use Rattle.rtrb.specs.declared.finished.Finished.{Finished}
use Rattle.c8_live.specs.Inlet.{InletId, PutterValue, TakerValue, EndedValue}

-- rtrb has no name for the ring of an end, so the parts of the end give it
abbrev pub inlet_of : End (List ℕ) Global AnyItems → InletId
inlet_of e = record {
  places = e.names.0;
  marks = e.names.1;
  words = e.words;
  slots = e.slots;
  heap = e.heap;
}

abbrev pub putter_seen : Producer (List ℕ) Global AnyItems → PutterValue
putter_seen p = record { inlet = inlet_of p.end; put = sent p; free = known_free p }

abbrev pub taker_seen : Consumer (List ℕ) Global AnyItems → TakerValue
taker_seen c = record { inlet = inlet_of c.end; taken = received c; seen = known_items c }

abbrev pub ended_seen : Finished (List ℕ) Global AnyItems → EndedValue
ended_seen f = record { inlet = inlet_of f.end; put = all_sent f }
