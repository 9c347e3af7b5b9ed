-- Things with names in Rust, told apart by them.
use Rattle.std.specs.Prelude.{◌≡◌, ◌≢◌, ◌⊎◌, ℕ, Bool, List, ◌∷◌, ◌++◌, Option, Some, None, All, codes, find, slice_get}

-- a thing
pub record Claim : Type 0 where
  -- its name as it is written
  pub written : List ℕ
  -- the thing, as it is told
  pub owner : List ℕ

-- what is written alike is one thing
pub record AreWrittenApart (claims : List Claim) : Type 0 where
  pub apart : (i j : ℕ) (a b : Claim) → slice_get claims i ≡ Some a → slice_get claims j ≡ Some b → a.written ≡ b.written → a.owner ≡ b.owner

-- the first thing that is written as an earlier one
pub record IsFirstClash (claims : List Claim) (earlier later : Claim) : Type 0 where
  pub before : List Claim
  pub after : List Claim
  pub parts : claims ≡ before ++ later ∷ after
  pub apart : AreWrittenApart before
  pub place : ℕ
  pub is_before : slice_get before place ≡ Some earlier
  pub written : earlier.written ≡ later.written
  pub owners : earlier.owner ≢ later.owner

-- what is told of two things: what they are, the earlier, the later, the name
abbrev pub clash_text : List ℕ → List ℕ → List ℕ → List ℕ → List ℕ
clash_text what earlier later written = what ++ (codes " `" ++ (earlier ++ (codes "` and `" ++ (later ++ (codes "` would both be `" ++ (written ++ codes "` in Rust"))))))

-- what is told of a thing that is written as a name of the code's own
abbrev pub taken_text : List ℕ → List ℕ → List ℕ
taken_text one owner = codes "the " ++ (one ++ (codes " `" ++ (owner ++ codes "` has a name that the code itself uses")))

-- things that are to be told apart
pub record Namespace : Type 0 where
  -- what they are, as errors tell it
  pub what : List ℕ
  -- what one of them is
  pub one : List ℕ
  -- the names that the code takes for itself among theirs
  pub own : List ℕ → Bool
  pub claims : List Claim

-- the first that is written as a name of the code's own
abbrev pub first_taken : Namespace → Option Claim
first_taken k = find (λ c. k.own c.written) k.claims

-- none is written as a name of the code's own, and what is written alike is one thing
pub record IsWellNamed (k : Namespace) : Type 0 where
  pub free : first_taken k ≡ None
  pub apart : AreWrittenApart k.claims

abbrev pub TellsTaken : Namespace → List ℕ → Type 0
TellsTaken k text = (c : Claim) × (first_taken k ≡ Some c) × (text ≡ taken_text k.one c.owner)

abbrev pub TellsClash : Namespace → List ℕ → Type 0
TellsClash k text = (earlier later : Claim) × IsFirstClash k.claims earlier later × (text ≡ clash_text k.what earlier.owner later.owner later.written)

-- a text tells the first thing that is wrong in the first kind where something is
pub record TellsFirst (kinds : List Namespace) (text : List ℕ) : Type 0 where
  pub before : List Namespace
  pub kind : Namespace
  pub after : List Namespace
  pub parts : kinds ≡ before ++ kind ∷ after
  pub good : All IsWellNamed before
  pub tells : TellsTaken kind text ⊎ TellsClash kind text
