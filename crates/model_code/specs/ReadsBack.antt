-- What is written is read back, so code that isn't shown alike has different tokens.
use Rattle.std.specs.Prelude.{◌≡◌, ◌≤◌, ◌+◌, ◌&&◌, ◌||◌, ◌==◌, ℕ, suc, Bool, true, false, not, List, [], ◌∷◌, length, Option, Some, None, is_some}
use Rattle.model.specs.sites.Sites.{Constraint, is_variant, is_struct, is_prim, is_present}
use Rattle.model_code.specs.Code.{Pass, as_it_is, lent, PlaceUse, Expr, extraction, call, variant_of, struct_of, Block, no_statement, statement, Statement, bind, match_on, if_equal, for_each_of, labelled, unless_let, unless_equal, CodeArms, no_code_arm, code_arm}
use Rattle.model_code.specs.Flat.{unlabelled, flat}
use Rattle.model_code.specs.Modes.{Types}
use Rattle.model_code.specs.Saving.{with_moves}
use Rattle.model_code.specs.Tokens.{variant_owner, struct_owner, Token, word, closing_brace, none_word, no_match}
use Rattle.model_code.specs.Notation.{Notation, ReturnForm, gives_one, gives_option, Shape, no_fields, named_fields, unnamed_fields}
use Rattle.model_code.specs.Pieces.{CodePiece, tokens_of, Margin, is_left, result_ends, is_end, unless_end, block_before}
use Rattle.model_code.specs.Shown.{shown}
use Rattle.model_code.specs.Written.{code_tokens, shown_code, function_body}
use Rattle.model_code.specs.Reading.{TokenReading, only_if, read_block}

-- 1. code that can be written: what is made, and each pattern, has as many fields as its type has; constants have none; and where a
-- test leaves a label, there is one around
abbrev pub takes : Shape → ℕ → Bool
takes no_fields m = m == 0
takes (named_fields n) m = m == n
takes (unnamed_fields n) m = m == n

abbrev pub expr_writable : Notation → Expr → Bool
expr_writable p (variant_of ty variant us) = takes (p.shape (variant_owner ty variant)) (length us)
expr_writable p (struct_of ty us) = takes (p.shape (struct_owner ty)) (length us)
expr_writable p e = true

abbrev pub pattern_writable : Notation → Constraint → List (Option ℕ) → Bool
pattern_writable p (is_variant ty variant n) fields = takes (p.shape (variant_owner ty variant)) n && (length fields == n)
pattern_writable p (is_struct ty n) fields = takes (p.shape (struct_owner ty)) n && (length fields == n)
pattern_writable p is_present fields = length fields == 1
pattern_writable p c fields = length fields == 0

abbrev pub is_looked_at : Pass → Bool
is_looked_at as_it_is = true
is_looked_at lent = true
is_looked_at _ = false

-- what is matched with a constant of an enum's or a struct's type is a reference
abbrev pub match_writable : Notation → PlaceUse → Constraint → Bool
match_writable p u (is_prim name) = not (p.is_constant_composed name) || is_looked_at u.pass
match_writable p u c = true

abbrev mutual
  pub writable : Notation → (label : Bool) → Block → Bool
  writable p label no_statement = true
  writable p label (statement s later) = writable_at p label s && unless_end (is_end (result_ends p) s) true (writable p label later)

  pub writable_at : Notation → (label : Bool) → Statement → Bool
  writable_at p label (bind v e) = expr_writable p e
  writable_at p label (match_on u arms) = writable_arms p label u arms
  writable_at p label (if_equal a b body) = writable p label body
  writable_at p label (for_each_of v from body) = writable p label body
  writable_at p label (labelled body) = writable p (is_left (result_ends p) body) body
  writable_at p label (unless_let u pattern fields) = label && (pattern_writable p pattern fields && match_writable p u pattern)
  writable_at p label (unless_equal a b) = label
  writable_at p label s = true

  pub writable_arms : Notation → (label : Bool) → PlaceUse → CodeArms → Bool
  writable_arms p label u no_code_arm = true
  writable_arms p label u (code_arm pattern fields body rest) = (pattern_writable p pattern fields && match_writable p u pattern) && (writable p label body && writable_arms p label u rest)

-- 2. how long and how deep the code is that is written
abbrev pub expr_size : Expr → ℕ
expr_size (extraction term u) = 2
expr_size (call term us instance) = suc (length us)
expr_size e = 0

abbrev mutual
  pub size : Notation → Block → ℕ
  size p no_statement = 1
  size p (statement s later) = suc (size_at p s + unless_end (is_end (result_ends p) s) 1 (size p later))

  pub size_at : Notation → Statement → ℕ
  size_at p (bind v e) = expr_size e
  size_at p (match_on u arms) = size_of_arms p arms
  size_at p (if_equal a b body) = size p body
  size_at p (for_each_of v from body) = size p body
  size_at p (labelled body) = size p body
  size_at p s = 0

  pub size_of_arms : Notation → CodeArms → ℕ
  size_of_arms p no_code_arm = 1
  size_of_arms p (code_arm pattern fields body rest) = suc (size p body + size_of_arms p rest)

-- what may stand behind a block: nothing, the brace that ends it, or the end of a function that has run through
abbrev pub ends_block : List Token → Bool
ends_block [] = true
ends_block (word closing_brace ∷ rest) = true
ends_block (word none_word ∷ rest) = true
ends_block (no_match ∷ rest) = true
ends_block _ = false

-- 3. a block is read back, up to what follows it
abbrev pub ReadsBack : Type 0
ReadsBack =
    (p : Notation) (code : Block) (n : ℕ) (at : Margin) (rest : List CodePiece) → size p code ≤ n → writable p (is_some at.label) code ≡ true → ends_block (tokens_of rest) ≡ true
    → read_block p n at.label (tokens_of (block_before p at code rest)) ≡ Some (shown p code, tokens_of rest)

-- the tokens of a function's code, without what follows where it has run through
abbrev pub read_code : Notation → List Token → TokenReading Block
read_code p tokens = read_block p (suc (length tokens)) None tokens

-- they are read back
abbrev pub CodeIsRead : Type 0
CodeIsRead = (p : Notation) (code : Block) → writable p false code ≡ true → read_code p (code_tokens p code) ≡ Some (shown_code p code, [])

-- a function from behind its first line on: its code, what stands where that has run through, and the brace
abbrev pub is_function_end : ReturnForm → List Token → Bool
is_function_end kind (word closing_brace ∷ []) = true
is_function_end gives_one (no_match ∷ (word closing_brace ∷ [])) = true
is_function_end gives_option (word none_word ∷ (word closing_brace ∷ [])) = true
is_function_end kind _ = false

abbrev pub up_to_end : ReturnForm → TokenReading Block → Option Block
up_to_end kind (Some r) = only_if (is_function_end kind r.1) r.0
up_to_end kind None = None

abbrev pub read_function : Notation → List Token → Option Block
read_function p tokens = up_to_end p.kind (read_code p tokens)

abbrev pub FunctionIsRead : Type 0
FunctionIsRead = (p : Notation) (code : Block) → writable p false code ≡ true → read_function p (tokens_of (function_body p code)) ≡ Some (shown_code p code)

-- different code has different tokens
abbrev pub TextShowsCode : Type 0
TextShowsCode = (p : Notation) (a b : Block) → writable p false a ≡ true → writable p false b ≡ true → code_tokens p a ≡ code_tokens p b → shown_code p a ≡ shown_code p b

-- labels, put at whatever depths, keep that code can be written
abbrev pub FlatKeepsWritable : Type 0
FlatKeepsWritable = (p : Notation) (b : Block) (deep : ℕ → Bool) (n : ℕ) → unlabelled b ≡ true → writable p false b ≡ true → writable p false (flat b deep n) ≡ true

-- and so do moves in place of clones
abbrev pub MovesKeepWritable : Type 0
MovesKeepWritable = (p : Notation) (label : Bool) (types : Types) (code : Block) → writable p label (with_moves types code) ≡ writable p label code
