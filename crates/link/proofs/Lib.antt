-- What the demands ask, of the contracts of the calls. In this order:
-- Contracts: the claims that the others speak of are the contracts themselves.
-- Exact: each refusal's number if and only if its test fails and the earlier ones pass (demand 1).
-- Demands: what is written reads back (demand 2), in the fewest events (demand 3); what is loaded is shown.
-- Limits: the changed-slot number's ones and bits, and the most events and bytes of a write.
-- Skips: what a run tells of the events that it skipped (K4).
-- Presses: 4 of a frame, by document 01's ranges and the pressure of each contact (K8).
-- Cut: a run may be cut between two records, and one record by itself is a run on its eight bytes.
-- Steady: well-formed states stay well formed, call after call.
-- Loss: after a reported loss every slot is answered "unknown" until a load is accepted (demand 2).
-- Cases: what the theorems ask can be met.
-- Shift: any list of calls of `write`, refused ones among them, as the model's.
-- Pointer: the option off, what any reader makes of the emulated events, and how many there are (K6).
-- PointerTold: states with the option, and what they told an old display, call after call (K6).
-- Cranes: the cranes' reader, given all their bytes, shows four numbers of the writer's slots and skips the sizes and the emulated events alone (K1).
-- Pieces: bytes as the line delivers them are read as `run` reads the whole records of their string, a load between them too (K5).
-- PiecesCalls: its claims are the contracts, their refusals exact; pieces from a fresh state, and what is asked between them.
-- Long: any shift at every moment: a reader given all its bytes, through the line's pieces or a recording too, one that comes late, a crane's, and the ids (K14).
-- Anonymous: a type A frame written as type B: its refusals, the pairing, who is where, and that it is a frame of `write` (K12).
-- HostsFit: a well-formed writer's numbers have room in its bytes.
-- HostsCalls: a call over lent bytes is the call by value (K11).
-- Hosts: a shift and a loss as C hosts see them (K11).
pub mod Contracts
pub mod Exact
pub mod Demands
pub mod Limits
pub mod Skips
pub mod Presses
pub mod Cut
pub mod Steady
pub mod Loss
pub mod Cases
pub mod Shift
pub mod Pointer
pub mod PointerTold
pub mod Cranes
pub mod Pieces
pub mod PiecesCalls
pub mod Long
pub mod Anonymous
pub mod HostsFit
pub mod HostsCalls
pub mod Hosts
