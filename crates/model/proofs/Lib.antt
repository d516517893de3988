-- The model's laws and theorems, one theme a file. The sheet and what is shown come first: a wrong definition fails there, by computing, before any proof.
--
-- What is computed
--   Bench: the definitions give the sheet's rows P1 to P9.
--   AtReport: the shown table stays but at a report, which shows what was pending.
--   FirstBytes: what each of the 256 first bytes of a pod's report begins.
--   Recorded: the recorder's worked cases (K2).
--   Instances: the theorems at the product's layout, and at the cranes' beside it.
--   ForceSheet: what is read of the force stick's inputs, and what its writes leave.
--   Instances: the theorems at the product's layout, and at the cranes' beside it.
--   Cranes: what a crane's reader has of the product's, and a shift with a gloved contact.
-- Tools
--   Bools: tests that pass or fail, and equal whole numbers.
--   Tables: slots and tables of one size, equal, good, with one slot changed or done.
--   Rows: a flat run of numbers row by row.
--   Images: a well-formed table is the table of its image, and a load accepts that.
--   Places: places for bytes, of which the unused ones are 0.
--   Counts: counts add up, and are no more than the events.
--   Layouts: a good setup's panel has fields that events can tell apart and carry.
--   Order: the slots that a changed-slot number names, taken by its lowest bit, are sent as the model sends them; slot c's bit taken out leaves the others.
-- Demand 1, refusals
--   Exact: each refusal's number if and only if its test fails and the earlier ones pass.
--   Answers: each call's answer by the first test that fails.
--   Calls: what is accepted, refused, steady and read back, said of each call.
--   Pod: the same of the pod's reports.
-- Demand 2, reading back
--   Follow: what is sent takes a following reader from the old table to the new one.
--   Codes: the events of what is sent are classified as they were meant.
--   ReadsBack: so a frame's events read back to its table.
--   Bytes: what was encoded is decoded, so a frame's bytes read back too.
--   Shows: a frame counts as one table shown, or nothing where nothing is sent.
--   Link: all this of `write` and `run`, in bytes.
-- Demand 2, a loss
--   Lost: what loses track, and that no event leads back.
--   Loss: so it is of lists of events.
--   Chain: and of calls one after another, until a load; and a run may be cut between calls.
-- Demand 3, fewest events
--   Count: how many events a frame has, by the current slot and the others.
--   Least: no shorter list of events does it.
--   Ones: the changed-slot number's ones and bits, and the most events.
--   Limits: the changed slots and events of any answer.
-- Runs that are cut
--   Cut: a run may be cut between any two records.
-- Ids and well-formed states
--   Ids: the id given is free, the first such, below 65,536, and keeps live ids apart.
--   Tries: as many tries as ids are taken find it, whatever their order.
--   ReaderSteady: events keep a reader well formed.
--   WriterSteady: good rows keep a writer well formed.
--   FreshSteady: fresh states are well formed.
-- Requests of document 02
--   SelfTest: a pod that waits differs in nothing but its first self-test (K3).
--   Skips: what a run tells of the events that it skipped, by their numbers (K4).
--   Presses: the values that a writer accepts are those in document 01's ranges with no contact of pressure 0 (K8).
--   Followed: what a run tells that ends following.
--   Shift: any list of calls of `write`, refused ones among them, in events and in bytes, and that the writer's own reader follows it.
--   NarrowReader: a reader with the first numbers of a longer one's slots ends as that one does, its tables cut (K1).
--   NarrowCounts: of what the longer one lists it skips the later fields.
--   Narrow: both of a shift, from fresh states.
--   PiecesCases: P1's bytes in five ways of cutting, a load inside a record, and states that are refused, computed (K5).
--   Pieces: pieces of any size read as the string that they make, and a load between them comes between two of its records.
--   PiecesCalls: the calls of such a reader: exact refusals, fresh states, what is asked.
--   Weights: the recorder's check fits 32 bits, and changes with any one byte (K2).
--   Blocks: what one block is answered exactly when; a written one reads back, an altered one is refused.
--   Recordings: a recording's blocks by their places; it reads back, and may be laid in parts.
--   Tampered: blocks left out, doubled or in each other's place, bytes cut off, one byte altered.
--   Replayed: what is heard of a recording: whole records, and from an altered block on a loss among them.
--   Laying: the recorder's calls that write, refused exactly when.
--   TimeOfDay: what seven bytes from 0xFC on say, whatever they are (K13).
-- The force stick (K10)
--   ForceBits: the numbers in a packet: CS, in which one altered byte shows, signed numbers, buttons and hat.
--   ForcePackets: a packet at the start of bytes, by cases.
--   ForceReads: reading at a position; the place moves on at every answer that does not wait.
--   ForceCut: an answer by bytes before a cut stays, and every other waits.
--   ForceAll: a reader of all packets ends, and goes on over a cut.
--   ForceWritten: reading a written packet gives it back, wherever it stands.
--   ForceForms: each report has one byte form.
--   ForceAltered: one altered byte of a written packet is never read as its report, and what is answered.
--   ForceCalls: exact refusals of a write, and the buffer afterwards.
-- The commands to the pod (K13)
--   CommandSheet: what is read of inputs worked out by hand, and what writes leave.
--   CommandReads: reading at a position, by cases; the place moves on past the whole command; what comes later; all commands of an input.
--   CommandForms: a written command is read where it stands, and a list of them as the list.
--   CommandOnes: what is read as a command is what is written for it; no byte form begins another; an answer by its number and values.
--   CommandCalls: exact refusals of a write, the pod's state, and the buffer afterwards.
-- Pointer emulation (K6)
--   PointerSheet: what frames give and which are refused, computed; first of all here.
--   Ranks: ranks by beginning are well formed after any frame.
--   RanksOrder: they are in the order of beginning, by two slots.
--   RanksKept: they stay where nothing begins or ends.
--   RanksOldest: the contact that X and Y follow.
--   RanksCode: how large ranks are, and what may stand for those that begin.
--   RanksMarks: ranks by an array of flags, all gaps at once, and slot by slot.
--   Emulated: a reader skips the emulated events, none comes alone, and they are on top of the contact events.
--   EmulatedNumbers: one for each changed number of the display, at most four.
--   EmulatedCounts: what a reader counts of them, following, lost, or in any mode.
--   Display: a display that hears a frame's events shows the new numbers.
--   Pointed: X and Y keep still or follow the oldest contact, in their ranges.
--   Pointing: well-formed states with the option on and off, fresh and after a frame.
--   PointerFrame: all this of a frame over any well-formed state, and the most events.
--   PointerCalls: exact refusals, answers, well-formed states and limits of the calls.
--   Off: with the option off every call answers what it answers without it.
--   PointerCarried: records can carry the events.
--   PointerBytes: demands 2 and 3 of the calls, in bytes.
--   PointerNone: nothing is written just where there is no contact event.
--   PointerShift: any list of calls, refused ones among them.
--   PointerPlain: seen without the option, they are the calls of a shift without it.
--   PointerNarrow: K1 with it: a shorter reader shows the first numbers of the writer's slots, and skips the emulated events too.
--   Long: K14: a reader that is given every byte of a shift, one that comes late and loads the writer's table, and the ids.
--   Births: the followed contact began in the earliest call.
-- Anonymous panels (K12)
--   Packets: what a type A frame tells: the plain form reads back, what is skipped changes nothing, the last of a repeated code counts, what leaves a frame unfinished.
--   PairingChoice: the choice of the least, and that it goes by the choices that are allowed and what they cost.
--   PairingBest: the pairing that is found is Best: most pairs, least total, first in dictionary order.
--   PairingUnique: no other is.
--   PairingCount: it has as many pairs as the smaller side has contacts.
--   PairingPlaced: which contact each slot then has: those left over find room, and each new contact is placed once.
--   Placing: each number of a pairing or a placing is a new contact's or `alone`.
--   Anonymous: the frame that is made is one that the writer takes.
--   AnonymousCalls: the call is the writer's on that frame, or a refusal, each exactly when; a refusal leaves all.
--   AnonymousBest: the contacts of a good table and a good frame are within what PairingBest asks.
--   AnonymousPlaces: who is where.
--   AnonymousSlots: what becomes of each slot.
--   AnonymousSheet: cases of it, computed.
pub mod Bench
pub mod AtReport
pub mod Cranes
pub mod Bools
pub mod Exact
pub mod Tables
pub mod Follow
pub mod Codes
pub mod ReadsBack
pub mod Count
pub mod Counts
pub mod Cut
pub mod Lost
pub mod Loss
pub mod Skips
pub mod Followed
pub mod Presses
pub mod Least
pub mod Ids
pub mod Tries
pub mod Rows
pub mod Images
pub mod ReaderSteady
pub mod WriterSteady
pub mod FreshSteady
pub mod Ones
pub mod Order
pub mod Bytes
pub mod Layouts
pub mod Calls
pub mod Answers
pub mod Chain
pub mod Shows
pub mod Link
pub mod Shift
pub mod NarrowReader
pub mod NarrowCounts
pub mod Narrow
pub mod FirstBytes
pub mod Places
pub mod Pod
pub mod PiecesCases
pub mod Pieces
pub mod PiecesCalls
pub mod SelfTest
pub mod TimeOfDay
pub mod ForceSheet
pub mod ForceBits
pub mod ForcePackets
pub mod ForceReads
pub mod ForceCut
pub mod ForceAll
pub mod ForceWritten
pub mod ForceForms
pub mod ForceAltered
pub mod ForceCalls
pub mod CommandSheet
pub mod CommandReads
pub mod CommandForms
pub mod CommandOnes
pub mod CommandCalls
pub mod Limits
pub mod Recorded
pub mod Weights
pub mod Blocks
pub mod Recordings
pub mod Tampered
pub mod Replayed
pub mod Laying
pub mod PointerSheet
pub mod Ranks
pub mod RanksOrder
pub mod RanksKept
pub mod RanksOldest
pub mod RanksCode
pub mod RanksMarks
pub mod Emulated
pub mod EmulatedNumbers
pub mod EmulatedCounts
pub mod Display
pub mod Pointed
pub mod Pointing
pub mod PointerFrame
pub mod PointerCalls
pub mod Off
pub mod PointerCarried
pub mod PointerBytes
pub mod PointerNone
pub mod PointerShift
pub mod PointerPlain
pub mod PointerNarrow
pub mod Long
pub mod Births
pub mod Packets
pub mod PairingChoice
pub mod PairingBest
pub mod PairingUnique
pub mod PairingCount
pub mod PairingPlaced
pub mod Placing
pub mod Anonymous
pub mod AnonymousCalls
pub mod AnonymousSlots
pub mod AnonymousBest
pub mod AnonymousPlaces
pub mod AnonymousSheet
pub mod Instances
