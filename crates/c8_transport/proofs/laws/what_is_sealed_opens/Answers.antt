-- The seal's 24 bytes come off the end, so equal packets have one datagram, and one counter below 2^64.
use Rattle.c8_transport.proofs.SealLemmas.{one_datagram, one_counter}
use Rattle.c8_transport.proofs.laws.what_is_sealed_opens.Goals as goal

pub returns : goal.returns
returns c = record {
  datagram = λ key one other first last same. one_datagram key one other first last same;
  counter = λ key one other first last few fewer same. one_counter key one other first last same few fewer;
}
