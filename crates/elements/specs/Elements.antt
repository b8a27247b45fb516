-- Known extension elements (document 01, "LM, SAM and SRM"): the IDs known at each home, and what is answered for an ID and a
-- home number. A reader believes this file; nothing in it mentions the constant table or its search.
use Rattle.std.specs.Prelude.{ℕ, zero, suc, Bool, false, cond, ◌||◌, List, [], ◌∷◌, ◌++◌, eqb, ltb}
use Rattle.elements.specs.declared.Home.{Home}
use Rattle.elements.specs.declared.Home.TheVariants.{Here, Elsewhere, Unknown}

-- the IDs known at each home: 0 N-Header, 1 T-Header, 2 service info; any other number is no home
unfoldable pub ids_at : ℕ → List ℕ
ids_at zero = 4 ∷ 15 ∷ 16 ∷ 80 ∷ 81 ∷ 82 ∷ []
ids_at (suc zero) = 83 ∷ []
ids_at (suc (suc zero)) = 8 ∷ 9 ∷ 10 ∷ 11 ∷ 19 ∷ 20 ∷ 22 ∷ 24 ∷ 85 ∷ []
ids_at (suc (suc (suc home))) = []

-- all known IDs
abbrev pub listed : List ℕ
listed = ids_at 0 ++ (ids_at 1 ++ ids_at 2)

-- the ID is among these
abbrev pub among : ℕ → List ℕ → Bool
among id [] = false
among id (x ∷ xs) = eqb x id || among id xs

-- document 01's three answers, in its words
pub data Word : Type 0 where
  here : Word
  elsewhere : Word
  unknown : Word

-- what is answered for an ID asked about at a home number
unfoldable pub element_word : ℕ → ℕ → Word
element_word id home =
    cond (ltb home 3)
    (cond (among id (ids_at home)) here
    (cond (among id listed) elsewhere
    unknown)) unknown

-- the case of the answer that says each word
abbrev pub home_of : Word → Home
home_of here = Here
home_of elsewhere = Elsewhere
home_of unknown = Unknown

-- the answer itself
abbrev pub element_home : ℕ → ℕ → Home
element_home id home = home_of (element_word id home)
