-- The claims of specs/Promises and specs/Cranes are the contracts themselves, as the toolchain states them: of arguments, answer and buffer at exit.
-- Assumes nothing.
use Rattle.writer.specs.declared.FreshWriter.{FreshWriter}
use Rattle.writer.specs.declared.Written.{Written}
use Rattle.writer.proofs.WriterState.fresh.Reads as writer-fresh
use Rattle.writer.proofs.write.Reads as write
use Rattle.reader.specs.declared.RunAnswer.{RunAnswer}
use Rattle.reader.specs.declared.FreshAnswer.{FreshAnswer}
use Rattle.reader.proofs.ReaderState.fresh.Reads as reader-fresh
use Rattle.reader.specs.declared.SlotAnswer.{SlotAnswer}
use Rattle.reader.specs.declared.LoadAnswer.{LoadAnswer}
use Rattle.reader.proofs.run.Reads as run
use Rattle.reader.proofs.read_one.Reads as read_one
use Rattle.reader.proofs.load.Reads as load
use Rattle.reader.proofs.ask.Reads as ask
use Rattle.crane_reader.specs.declared.FreshAnswer.{FreshAnswer as CraneFresh}
use Rattle.crane_reader.specs.declared.RunAnswer.{RunAnswer as CraneAnswer}
use Rattle.crane_reader.proofs.ReaderState.fresh.Reads as crane-fresh
use Rattle.crane_reader.proofs.run.Reads as crane-run
use Rattle.link.specs.Promises.{WriterMade, Wrote, ReaderMade, Ran, ReadOne, Loaded, Asked}
use Rattle.link.specs.Cranes.{CraneMade, CraneRan}

pub writer-made-is : (κs : _) (a : _) (r : FreshWriter) (t : _) → writer-fresh.Learnt κs a r t → WriterMade a.0 a.1.0 r
writer-made-is κs a r t e = e

pub wrote-is : (κs : _) (a : _) (r : Written) (t : _) → write.Learnt κs a r t
    → Wrote a.0 a.1.0.now a.1.1.1.0 a.1.1.0.now r t.1.1.0.now
wrote-is κs a r t e = e

pub reader-made-is : (κs : _) (a : _) (r : FreshAnswer) (t : _) → reader-fresh.Learnt κs a r t
    → ReaderMade (record { n = a.0; x = a.1.0; y = a.1.1.0; pressure = a.1.1.1.0; major = a.1.1.1.1.0; minor = a.1.1.1.1.1.0 }) r
reader-made-is κs a r t e = e

pub ran-is : (κs : _) (a : _) (q : RunAnswer) (t : _) → run.Learnt κs a q t → Ran a.0 a.1.0.now q
ran-is κs a q t e = e

pub read_one_is : (κs : _) (a : _) (q : RunAnswer) (t : _) → read_one.Learnt κs a q t → ReadOne a.0 a.1.0 q
read_one_is κs a q t e = e

pub loaded_is : (κs : _) (a : _) (q : LoadAnswer) (t : _) → load.Learnt κs a q t → Loaded a.0 a.1.0.now a.1.1.0.0 q
loaded_is κs a q t e = e

pub asked_is : (κs : _) (a : _) (r : SlotAnswer) (t : _) → ask.Learnt κs a r t → Asked a.0 a.1.0.0 r
asked_is κs a r t e = e.answer

pub crane-made-is : (κs : _) (a : _) (r : CraneFresh) (t : _) → crane-fresh.Learnt κs a r t
    → CraneMade (record { n = a.0; x = a.1.0; y = a.1.1.0; pressure = a.1.1.1.0 }) r
crane-made-is κs a r t e = e

pub crane-ran-is : (κs : _) (a : _) (q : CraneAnswer) (t : _) → crane-run.Learnt κs a q t → CraneRan a.0 a.1.0.now q
crane-ran-is κs a q t e = e
