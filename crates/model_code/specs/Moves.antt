-- What a loop takes, on code as data: `let mut v5 = v5.into_context_iter();` moves the call that it goes over. So that call is
-- bound in the block right before, and nothing else reads it.
use Rattle.std.specs.Prelude.{[], ◌≡◌, ◌&&◌, ◌∷◌, ℕ, Bool, true, false, not, List}
use Rattle.std.specs.Bool.{◌==◌}
use Rattle.std.specs.List.{list_any}
use Rattle.model.specs.sites.Sites.{Site, iterator_site}
use Rattle.model.specs.trees.Places.{is_in}
use Rattle.model_code.specs.Code.{Place, variable, part_of, PlaceUse, Expr, truth_written, read, extraction, call, variant_of, struct_of, some_of, Block, no_statement, statement, Statement, bind, bind_some, no_way, match_on, if_equal, for_each_of, give, labelled, unless_let, unless_equal, CodeArms, no_code_arm, code_arm}
use Rattle.model_code.specs.Flat.{unlabelled, flat}
use Rattle.model_code.specs.Scopes.{unless_ended}

-- some variables are taken by loops: another is read
abbrev pub other : (ℕ → Bool) → Place → Bool
other taken (variable v) = not (taken v)
other taken (part_of v i) = not (taken v)
other taken place = true

abbrev pub others : (ℕ → Bool) → List PlaceUse → Bool
others taken [] = true
others taken (u ∷ us) = other taken u.place && others taken us

abbrev pub reads_other : (ℕ → Bool) → Expr → Bool
reads_other taken (truth_written b ty) = true
reads_other taken (read u) = other taken u.place
reads_other taken (extraction term u) = other taken u.place
reads_other taken (call term us instance) = others taken us
reads_other taken (variant_of ty variant us) = others taken us
reads_other taken (struct_of ty us) = others taken us
reads_other taken (some_of u) = other taken u.place

-- what was bound right before: by the `let`s that no other statement parts from here
abbrev pub fresh_after : List ℕ → Statement → List ℕ
fresh_after fresh (bind v e) = v ∷ fresh
fresh_after fresh (bind_some v u) = v ∷ fresh
fresh_after fresh s = []

abbrev mutual
  pub block_takes : (ℕ → Bool) → List ℕ → Block → Bool
  block_takes taken fresh no_statement = true
  block_takes taken fresh (statement s rest) = statement_takes taken fresh s && unless_ended s (block_takes taken (fresh_after fresh s) rest)

  pub statement_takes : (ℕ → Bool) → List ℕ → Statement → Bool
  statement_takes taken fresh (bind v e) = reads_other taken e
  statement_takes taken fresh (bind_some v u) = other taken u.place
  statement_takes taken fresh no_way = true
  statement_takes taken fresh (match_on u arms) = other taken u.place && arms_take taken arms
  statement_takes taken fresh (if_equal a b body) = (other taken a.place && other taken b.place) && block_takes taken [] body
  statement_takes taken fresh (for_each_of v from body) = (taken from && is_in from fresh) && block_takes taken [] body
  statement_takes taken fresh (give at u) = other taken u.place
  statement_takes taken fresh (labelled body) = block_takes taken [] body
  statement_takes taken fresh (unless_let u pattern fields) = other taken u.place
  statement_takes taken fresh (unless_equal a b) = other taken a.place && other taken b.place

  pub arms_take : (ℕ → Bool) → CodeArms → Bool
  arms_take taken no_code_arm = true
  arms_take taken (code_arm pattern fields body rest) = block_takes taken [] body && arms_take taken rest

-- loops take some variables, each once: it is bound right before, and read by nothing else
abbrev pub TakesOnce : Block → Type 0
TakesOnce code = (taken : ℕ → Bool) × (block_takes taken [] code ≡ true)

-- labels, put at whatever depths, keep that
abbrev pub FlatKeepsMoves : Type 0
FlatKeepsMoves = (taken : ℕ → Bool) (b : Block) (deep : ℕ → Bool) (n : ℕ) → unlabelled b ≡ true → block_takes taken [] b ≡ true → block_takes taken [] (flat b deep n) ≡ true

-- the calls that a set's loops go over
abbrev pub goes_over : ℕ → Site → Bool
goes_over c (iterator_site source) = source == c
goes_over c b = false

abbrev pub is_called : List Site → ℕ → Bool
is_called sites c = list_any (goes_over c) sites
