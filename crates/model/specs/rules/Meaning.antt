-- What a site can hold, and what a meaning gives.
use Rattle.std.specs.Prelude.{ℕ, ℤ, Bool, false, List, [], ◌∷◌, Option, Some, None, if◌then◌else◌, ◌&&◌}
use Rattle.std.specs.Bool.{◌==◌}
use Rattle.std.specs.Ordering.{int_eq}
use Rattle.std.proofs.Math.Bool.{beq}
use Rattle.model.specs.rules.Values.{Value, Values, no_value, value_and, value_eq, values_eq}

-- one value, the outputs of a call that has none or several, nothing, just a content, or the answers of a multi call
mutual
  pub data Content : Type 0 where
    one : (v : Value) → Content
    parts : (vs : Values) → Content
    nothing : Content
    just : (c : Content) → Content
    many : (cs : Contents) → Content

  pub data Contents : Type 0 where
    no_content : Contents
    content_and : (c : Content) (rest : Contents) → Contents

abbrev pub contents : Contents → List Content
contents no_content = []
contents (content_and c rest) = c ∷ contents rest

-- a literal, with the type at which it is written
pub data Literal : Type 0 where
  bool_literal : (b : Bool) (ty : ℕ) → Literal
  int_literal : (z : ℤ) (ty : ℕ) → Literal

abbrev pub literal_eq : Literal → Literal → Bool
literal_eq (bool_literal a s) (bool_literal b t) = beq a b && (s == t)
literal_eq (int_literal a s) (int_literal b t) = int_eq a b && (s == t)
literal_eq _ _ = false

-- the first entry whose key passes
abbrev pub look : {K V : Type 0} → (K → Bool) → List (K × V) → Option V
look p [] = None
look p (e ∷ rest) = if p e.0 then Some e.1 else look p rest

-- a meaning: the value of each literal and of each named constant, by the number of the name, and what is answered to each call: of an
-- extractor, by its term and its argument; of a pure constructor, by its term and its arguments; of an impure one, by its term and
-- the number of impure calls made before. All are functions, and may say nothing
pub record Meaning : Type 0 where
  pub literals : Literal → Option Value
  pub constants : ℕ → Option Value
  pub extractors : ℕ → Value → Option Content
  pub pures : ℕ → Values → Option Content
  pub impures : ℕ → ℕ → Option Content

abbrev pub literal_value : Meaning → Literal → Option Value
literal_value m l = m.literals l

abbrev pub constant_value : Meaning → ℕ → Option Value
constant_value m name = m.constants name

abbrev pub extractor_answer : Meaning → ℕ → Value → Option Content
extractor_answer m term v = m.extractors term v

abbrev pub pure_answer : Meaning → ℕ → Values → Option Content
pure_answer m term vs = m.pures term vs

abbrev pub impure_answer : Meaning → ℕ → ℕ → Option Content
impure_answer m term before = m.impures term before

-- five finite maps; of several entries for one key the first one counts
pub record Maps : Type 0 where
  pub literals : List (Literal × Value)
  pub constants : List (ℕ × Value)
  pub extractor_calls : List ((ℕ × Value) × Content)
  pub pure_calls : List ((ℕ × Values) × Content)
  pub impure_calls : List ((ℕ × ℕ) × Content)

-- the meaning that says what the maps have
abbrev pub finite : Maps → Meaning
finite maps = record {
  literals = λ l. look (λ k. literal_eq k l) maps.literals;
  constants = λ name. look (λ k. k == name) maps.constants;
  extractors = λ term v. look (λ k. (k.0 == term) && value_eq k.1 v) maps.extractor_calls;
  pures = λ term vs. look (λ k. (k.0 == term) && values_eq k.1 vs) maps.pure_calls;
  impures = λ term before. look (λ k. (k.0 == term) && (k.1 == before)) maps.impure_calls;
}

-- a meaning that says something of all
pub record TotalMeaning : Type 0 where
  pub literals : Literal → Value
  pub constants : ℕ → Value
  pub extractors : ℕ → Value → Content
  pub pures : ℕ → Values → Content
  pub impures : ℕ → ℕ → Content

abbrev pub total : TotalMeaning → Meaning
total f = record {
  literals = λ l. Some (f.literals l);
  constants = λ name. Some (f.constants name);
  extractors = λ term v. Some (f.extractors term v);
  pures = λ term vs. Some (f.pures term vs);
  impures = λ term before. Some (f.impures term before);
}

-- the outputs of a call: one value stands alone, none or several stand together
abbrev pub outputs : Content → Option Values
outputs (one v) = Some (value_and v no_value)
outputs (parts vs) = Some vs
outputs _ = None

-- the outputs of a call that may answer nothing
abbrev pub answered_outputs : Content → Option Values
answered_outputs (just c) = outputs c
answered_outputs nothing = None
answered_outputs c = outputs c
