-- The pod's laws: answers (Laws), what its promises settle (Promises), what K3 changed of them (SelfTest), and that
-- they leave no choice (Unique).
pub mod Laws
pub mod Promises
pub mod SelfTest
pub mod Unique
