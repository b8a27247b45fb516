-- What the opening of a section answers: what kind of section it is and whether it has extensions.
use Rattle.std.specs.Prelude.{ℕ, zero, suc, ◌%◌, ◌<◌, Bool, true, false, ◌≡◌, List, ℤ, Result, Ok, Err}
use Rattle.read_steps.specs.Reads.{State, state_at, Reads, Continues}
use Rattle.lm_items.specs.Asked.{following, rank, asked, on}
use Rattle.lm_items.specs.declared.Section.{Section}
use Rattle.lm_items.specs.declared.Section.TheVariants.{Network, Original}
use Rattle.lm_items.specs.declared.Kind.{Kind}
use Rattle.lm_items.specs.declared.Kind.TheVariants.{NullNetworking, InternalForwarding, NHopForwarding, Dissemination, Session}
use Rattle.answer.specs.declared.Refusal.{Refusal}
use Rattle.read_steps.specs.declared.Cursor.{Cursor}

-- the kind of an N-Header by its subtype, of a T-Header by its feature selector, where there is such a branch
abbrev pub network_kind : ℕ → Kind
network_kind zero = NullNetworking
network_kind (suc zero) = InternalForwarding
network_kind (suc (suc n)) = NHopForwarding

abbrev pub transport_kind : ℕ → Kind
transport_kind zero = Dissemination
transport_kind (suc n) = Session

-- which of the two N-Headers
abbrev pub network_section : Bool → Section
network_section false = Network
network_section true = Original

-- what a section is, whether it has extensions, and the cursor behind its opening; or the refusal
abbrev pub Opened : Type 0
Opened = Result (Kind × Bool × Cursor) Refusal

-- a section that was opened: its kind, after which fewer sections are left, from an octet's start on; or the refusal
abbrev pub Opens : Section → List ℕ → ℕ → State → List ℤ → List ℕ → Opened → Type 0
Opens section message room from values packed (Ok (kind, e, to)) =
    Continues message room (asked section) from (on kind e) (state_at to values packed) × (rank (following kind) < rank section) × (to.place.0 % 8 ≡ 0)
Opens section message room from values packed (Err refusal) = Reads message room (asked section) from values packed (Err refusal)
