-- The number of each refusal of a socket.
use Rattle.std.specs.Prelude.{ℕ}
use Rattle.c8_transport.specs.declared.error.WireFailed.{WireFailed}
use Rattle.c8_transport.specs.declared.error.WireFailed.TheVariants as failures
use Rattle.c8_udp.specs.declared.error.SocketFault.{SocketFault}
use Rattle.c8_udp.specs.declared.error.SocketFault.TheVariants as faults
use Rattle.c8_udp.specs.declared.error.SocketError.{SocketError}
use Rattle.c8_udp.specs.declared.error.SocketError.TheVariants.{Failed, Remotes, Address, Thread}

abbrev pub socket_error_number : SocketError → ℕ
socket_error_number (Failed why) = 1
socket_error_number Remotes = 2
socket_error_number Address = 3
socket_error_number Thread = 4

-- why a wire that failed cannot be used any more
abbrev pub fault_of_wire : WireFailed → SocketFault
fault_of_wire failures.Closed = faults.Closed
fault_of_wire failures.Spent = faults.Spent
