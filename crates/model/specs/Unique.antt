-- What it is for a promise to leave no choice, and to settle a number of its answer. The toolchain states a contract as a claim of lifetimes κs, arguments, result and the parameters at exit; each library crate's proofs/Unique says this of
-- those claims themselves. Assumes nothing.
use Rattle.std.specs.Prelude.{◌≡◌}

-- Any two answers that a promise allows for the same arguments are equal.
abbrev pub OneAnswer : {K : Type 0} {A R S : K → Type 0} → ((κs : K) → A κs → R κs → S κs → Type 0) → Type 0
OneAnswer {K} {A} {R} {S} P = (κs : K) (a : A κs) (r q : R κs) (s t : S κs) → P κs a r s → P κs a q t → r ≡ q

-- And so is what it leaves of a buffer that it was lent: f gives the buffer's bytes at exit.
abbrev pub OneLeft : {K B : Type 0} {A R S : K → Type 0} → ((κs : K) → A κs → R κs → S κs → Type 0) → ((κs : K) → S κs → B) → Type 0
OneLeft {K} {B} {A} {R} {S} P f = (κs : K) (a : A κs) (r q : R κs) (s t : S κs) → P κs a r s → P κs a q t → f κs s ≡ f κs t

-- Whatever answer a promise allows, f of it is what g says of the arguments.
abbrev pub Gives : {K B : Type 0} {A R S : K → Type 0} → ((κs : K) → A κs → R κs → S κs → Type 0) → ((κs : K) → R κs → B) → ((κs : K) → A κs → B) → Type 0
Gives {K} {B} {A} {R} {S} P f g = (κs : K) (a : A κs) (r : R κs) (s : S κs) → P κs a r s → f κs r ≡ g κs a
