-- The pod's structs as the model's values, and back, and what its functions answer by them; the meaning is the model's. Cited by the
-- promises of src/lib.rt. Assumes nothing.
use Rattle.std.specs.Prelude.{◌≡◌, List, [], ◌∷◌, map, ℕ, ℤ}
use Rattle.model.specs.Pod as M
use Rattle.pod.specs.declared.PodState.{PodState}
use Rattle.pod.specs.declared.Kind.{Kind}
use Rattle.pod.specs.declared.Kind.TheVariants as K
use Rattle.pod.specs.declared.Clock.{Clock}
use Rattle.pod.specs.declared.Stick.{Stick}
use Rattle.pod.specs.declared.Report.{Report}
use Rattle.pod.specs.declared.Report.TheVariants as R
use Rattle.pod.specs.declared.PodAnswer.{PodAnswer}

-- A kind of report as the model's.
abbrev pub kind_seen : Kind → M.Kind
kind_seen (K.KeyDown key) = M.key_down_report key
kind_seen (K.KeyUp key) = M.key_up_report key
kind_seen K.Absolute = M.absolute_report
kind_seen (K.Relative left right) = M.relative_report left right
kind_seen K.TimeOfDay = M.time_report
kind_seen K.BothSticks = M.both_sticks_report
kind_seen (K.OneStick which) = M.one_stick_report which
kind_seen K.SelfTest = M.self_test_report
kind_seen K.BadByte = M.bad_byte_report

-- A state as the model's: its wait, its places and its count.
abbrev pub seen : PodState → M.State
seen s = record { waits = s.waits; bytes = s.bytes; count = s.count }

-- The model's state as a struct.
abbrev pub held : M.State → PodState
held s = record { waits = s.waits; bytes = s.bytes; count = s.count }

-- A clock as the model's.
abbrev pub clock_seen : Clock → M.Clock
clock_seen c = record { year = c.year; month = c.month; day = c.day; hour = c.hour; minute = c.minute; second = c.second }

-- The model's clock as a struct.
abbrev pub held_clock : M.Clock → Clock
held_clock c = record { year = c.year; month = c.month; day = c.day; hour = c.hour; minute = c.minute; second = c.second }

-- A stick byte as a struct.
abbrev pub held_stick : ℕ → Stick
held_stick b = record { trigger = M.trigger b; position = M.position b }

-- The model's answer as an enum.
abbrev pub held_report : M.Report → Report
held_report M.more = R.More
held_report (M.key_down key) = R.KeyDown (record { key = key })
held_report (M.key_up key) = R.KeyUp (record { key = key })
held_report (M.absolute flags x y) = R.Absolute (record { flags = flags; x = x; y = y })
held_report (M.relative left right dx dy) = R.Relative (record { left = left; right = right; dx = dx; dy = dy })
held_report (M.time_of_day c) = R.TimeOfDay (record { clock = held_clock c })
held_report (M.both_sticks t0 p0 t1 p1) =
    R.BothSticks (record { stick0 = record { trigger = t0; position = p0 }; stick1 = record { trigger = t1; position = p1 } })
held_report (M.one_stick which t p) = R.OneStick (record { which = which; stick = record { trigger = t; position = p } })
held_report M.self_test_passed = R.SelfTestPassed (record {})
held_report M.bad_byte = R.BadByte (record {})
held_report M.bad_report = R.BadReport
held_report M.refused = R.Refused

-- An answer as the model's.
abbrev pub report_seen : Report → M.Report
report_seen R.More = M.more
report_seen (R.KeyDown r) = M.key_down r.key
report_seen (R.KeyUp r) = M.key_up r.key
report_seen (R.Absolute r) = M.absolute r.flags r.x r.y
report_seen (R.Relative r) = M.relative r.left r.right r.dx r.dy
report_seen (R.TimeOfDay r) = M.time_of_day (clock_seen r.clock)
report_seen (R.BothSticks r) = M.both_sticks r.stick0.trigger r.stick0.position r.stick1.trigger r.stick1.position
report_seen (R.OneStick r) = M.one_stick r.which r.stick.trigger r.stick.position
report_seen (R.SelfTestPassed r) = M.self_test_passed
report_seen (R.BadByte r) = M.bad_byte
report_seen R.BadReport = M.bad_report
report_seen R.Refused = M.refused

-- The refusal number of an answer.
abbrev pub refusal_of : Report → ℕ
refusal_of r = M.report_refusal (report_seen r)

-- The numbers of an answer.
abbrev pub numbers_of : Report → List ℤ
numbers_of r = M.report_numbers (report_seen r)

-- The fresh state.
abbrev pub fresh_state : PodState
fresh_state = held M.fresh

-- A state and an answer of the model as a struct.
abbrev pub held_step : M.Stepped → PodAnswer
held_step a = record { state = held a.state; report = held_report a.report }

-- What a state is answered to a byte.
abbrev pub step_answer : PodState → ℕ → PodAnswer
step_answer s b = held_step (M.step (seen s) b)

-- What `step` promises of its answer r: it is that answer, and has document 01's refusal number and numbers of it.
pub record AnswersAs (s : PodState) (b : ℕ) (r : PodAnswer) : Type 0 where
  pub answer : r ≡ step_answer s b
  pub refusal : refusal_of r.report ≡ M.report_refusal (M.step (seen s) b).report
  pub numbers : numbers_of r.report ≡ M.report_numbers (M.step (seen s) b).report

-- The state after a run over bytes.
abbrev pub state_after : PodState → List ℕ → PodState
state_after s bs = held (M.run (seen s) bs).state

-- What a host was answered to bytes, one answer for each: the contract of `step` allows each on the state that the host has then.
abbrev pub Answered : PodState → List ℕ → List PodAnswer → Type 0
Answered s [] [] = Unit {0}
Answered s [] (r ∷ rs) = ⊥
Answered s (b ∷ bs) [] = ⊥
Answered s (b ∷ bs) (r ∷ rs) = AnswersAs s b r × Answered r.state bs rs

-- The reports of these answers, as the model's.
abbrev pub reports_of : List PodAnswer → List M.Report
reports_of rs = map (λ (r : PodAnswer). report_seen r.report) rs

-- The state that the host has after them.
abbrev pub state_left : PodState → List PodAnswer → PodState
state_left s [] = s
state_left s (r ∷ rs) = state_left r.state rs
