-- What a program prints that takes one unit after another from its input: frames, records of a capture. A machine is a program's own part
-- of it, and this file knows none of them. Of a machine that is steady any octets have one text and one last state, and an input that is
-- cut after a whole unit gives the same text and state as the whole (Laws).
use Rattle.std.specs.Prelude.{ℕ, zero, suc, ◌≤◌, ◌<◌, ◌≡◌, List, [], ◌∷◌, ◌++◌, length, take, drop}
use Rattle.machine.specs.declared.Front.{Front}
use Rattle.machine.specs.declared.Front.TheVariants.{Whole, Part, Wrong}

-- A program, by its state: what octets begin with; of a whole unit its text and the state after it; the text where it stops at a
-- wrong unit, and where the input ends with these octets left.
pub record Machine (A : Type 0) : Type 0 where
  pub front : A → List ℕ → Front
  pub line : A → List ℕ → List ℕ
  pub next : A → List ℕ → A
  pub stopped : A → List ℕ
  pub ended : A → List ℕ → List ℕ

-- The text for octets from a state on, and the state left.
pub data Gives {A : Type 0} (m : Machine A) : A → List ℕ → List ℕ → A → Type 0 where
  unit : {a b : A} {octets text : List ℕ} (size : ℕ) → m.front a octets ≡ Whole size
      → Gives m (m.next a (take size octets)) (drop size octets) text b
      → Gives m a octets (m.line a (take size octets) ++ text) b
  stop : {a : A} {octets : List ℕ} → m.front a octets ≡ Wrong → Gives m a octets (m.stopped a) a
  end : {a : A} {octets : List ℕ} → m.front a octets ≡ Part → Gives m a octets (m.ended a octets) a

-- Whole units and nothing else, their text, and the state after them.
pub data Units {A : Type 0} (m : Machine A) : A → List ℕ → List ℕ → A → Type 0 where
  none : {a : A} → Units m a [] [] a
  more : {a b : A} {octets text : List ℕ} (size : ℕ) → m.front a octets ≡ Whole size
      → Units m (m.next a (take size octets)) (drop size octets) text b
      → Units m a octets (m.line a (take size octets) ++ text) b

-- The same as a function: the text and the state left, by what the octets begin with and by what a whole unit of a size leaves to be given.
pub record Given (A : Type 0) : Type 0 where
  pub text : List ℕ
  pub left : A

abbrev pub given_by : {A : Type 0} → Machine A → A → List ℕ → Front → (ℕ → Given A) → Given A
given_by m a s (Whole size) rest = record { text = m.line a (take size s) ++ (rest size).text; left = (rest size).left }
given_by m a s Part rest = record { text = m.ended a s; left = a }
given_by m a s Wrong rest = record { text = m.stopped a; left = a }

-- in at most so many steps; no octets take more than one for each of them and one to end
unfoldable pub given_within : {A : Type 0} → ℕ → Machine A → A → List ℕ → Given A
given_within zero m a s = record { text = []; left = a }
given_within (suc most) m a s = given_by m a s (m.front a s) (λ size. given_within most m (m.next a (take size s)) (drop size s))

unfoldable pub given : {A : Type 0} → Machine A → A → List ℕ → Given A
given m a s = given_within (suc (length s)) m a s

-- What is asked of a machine: a unit has octets, all of them at hand, and what follows changes neither it nor a wrong one.
pub record Steady {A : Type 0} (m : Machine A) : Type 0 where
  pub some : (a : A) (s : List ℕ) (size : ℕ) → m.front a s ≡ Whole size → (0 < size) × (size ≤ length s)
  pub stays : (a : A) (s rest : List ℕ) (size : ℕ) → m.front a s ≡ Whole size → m.front a (s ++ rest) ≡ Whole size
  pub wrong : (a : A) (s rest : List ℕ) → m.front a s ≡ Wrong → m.front a (s ++ rest) ≡ Wrong

-- units one after another, and the state that they leave, taken one by one
unfoldable pub joined : List (List ℕ) → List ℕ
joined [] = []
joined (u ∷ us) = u ++ joined us

unfoldable pub singly : {A : Type 0} → Machine A → A → List (List ℕ) → A
singly m a [] = a
singly m a (u ∷ us) = singly m (m.next a u) us

pub record Laws {A : Type 0} (m : Machine A) : Type 0 where
  -- any octets have a text
  pub text : (a : A) (s : List ℕ) → (t : List ℕ) × (b : A) × Gives m a s t b
  -- which is the one given
  pub found : (a : A) (s : List ℕ) → Gives m a s (given m a s).text (given m a s).left
  -- and one only, with one state left
  pub one : (a : A) (s t u : List ℕ) (b c : A) → Gives m a s t b → Gives m a s u c → (t ≡ u) × (b ≡ c)
  -- cut after any whole unit, the second part going on from the state left by the first: the same text and state
  pub cut : (a b c : A) (x y t u : List ℕ) → Units m a x t b → Gives m b y u c → Gives m a (x ++ y) (t ++ u) c
  -- and the first part alone gives its units' text, what is told where no octets are left, and that state
  pub first : (a b : A) (x t : List ℕ) → m.front b [] ≡ Part → Units m a x t b → Gives m a x (t ++ m.ended b []) b
  -- the state that whole units leave is what they leave one by one
  pub each : (a b : A) (x t : List ℕ) → Units m a x t b → (us : List (List ℕ)) × (joined us ≡ x) × (singly m a us ≡ b)

-- A machine within another: its states stand for some of the other's, which there does what it does.
pub record Within {A B : Type 0} (m : Machine A) (n : Machine B) (at : A → B) : Type 0 where
  pub front : (a : A) (s : List ℕ) → n.front (at a) s ≡ m.front a s
  pub line : (a : A) (s : List ℕ) → n.line (at a) s ≡ m.line a s
  pub next : (a : A) (s : List ℕ) → n.next (at a) s ≡ at (m.next a s)
  pub stopped : (a : A) → n.stopped (at a) ≡ m.stopped a
  pub ended : (a : A) (s : List ℕ) → n.ended (at a) s ≡ m.ended a s
