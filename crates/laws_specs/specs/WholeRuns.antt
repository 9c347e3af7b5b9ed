-- Whole runs: terms with rules call one another, and what else they call is outside the program.
use Rattle.std.specs.Prelude.{◌≡◌, ◌⊎◌, ℕ, zero, suc, Bool, true, false, List, [], ◌∷◌, ◌++◌, Option, Some, Contains, IsTrue}
use Rattle.std.specs.Bool.{◌==◌}
use Rattle.std.specs.List.{list_any}
use Rattle.model.specs.rules.Values.{Value, Values, listed, args_well_typed}
use Rattle.model.specs.rules.Meaning.{Content, nothing, Literal, Meaning, impure_answer}
use Rattle.model.specs.rules.Outcome.{Call, Outcome, ended, failed, ran_through}
use Rattle.model.specs.rules.Program.{Program, is_multi, is_partial, arg_types, rules_of, terms_with_rules}
use Rattle.model.specs.rules.Choice.{choice}
use Rattle.model.specs.rules.RightSide.{result_content}
use Rattle.model.specs.sites.Serves.{Serves, TellsConstantsApart}

-- what is outside: the values of literals and of named constants, the answers of extractors and pure constructors, and the answer of
-- each impure call by the impure calls that were made outside before it. It may say nothing
pub record Outside : Type 0 where
  pub literals : Literal → Option Value
  pub constants : ℕ → Option Value
  pub extractors : ℕ → Value → Option Content
  pub pures : ℕ → Values → Option Content
  pub impures : List Call → Call → Option Content

-- what the function of each term does by itself: its outcome on arguments, under a meaning of all that it calls
abbrev pub Functions : Type 0
Functions = ℕ → Meaning → List Value → Outcome

-- by source rules: that of the matching rule of greatest priority
abbrev pub by_rules : Program → Functions
by_rules p t m args = choice p m (rules_of p t) args

abbrev pub has_rules : Program → ℕ → Bool
has_rules p t = list_any (λ r. r.root_term == t) p.rules

-- what the caller of a function gets: the result; or nothing, from a partial term of which no rule matches, or an unwrap fails.
-- From any other outcome a caller gets no answer
pub data IsAnswer (partial : Bool) (o : Outcome) (c : Content) : Type 0 where
  a_result : (v : Value) → c ≡ result_content partial v → o.results ≡ c ∷ [] → o.ending ≡ ended → IsAnswer partial o c
  no_result : partial ≡ true → c ≡ nothing → o.results ≡ [] → (o.ending ≡ ran_through) ⊎ (o.ending ≡ failed) → IsAnswer partial o c

-- one of two, by whether a term has rules
abbrev pub Either : Bool → Type 0 → Type 0 → Type 0
Either true A B = A
Either false A B = B

-- what calls of terms with rules come to: `Nested call before c after` says that the call is answered by c, and that the impure calls
-- made outside, with those made before it, are these after it
module _ (Nested : Call → List Call → Content → List Call → Type 0) (p : Program) (o : Outside) where
  -- an impure call
  abbrev pub IsMadeCall : Call → List Call → Content → List Call → Type 0
  IsMadeCall call before c after = Either (has_rules p call.term) (Nested call before c after) ((o.impures before call ≡ Some c) × (after ≡ before ++ call ∷ []))

  -- impure calls of one function in order, each with the answer that the meaning has under its number
  abbrev pub AreMadeCalls : Meaning → ℕ → List Call → List Call → List Call → Type 0
  AreMadeCalls m n [] before after = before ≡ after
  AreMadeCalls m n (call ∷ rest) before after =
      (c : Content) × (between : List Call) × (impure_answer m call.term n ≡ Some c) × IsMadeCall call before c between × AreMadeCalls m (suc n) rest between after

  -- a pure call: whatever was called before it, it makes no call outside
  abbrev pub IsPureAnswer : ℕ → Values → Content → Type 0
  IsPureAnswer t vs c = Either (has_rules p t) ((before : List Call) → Nested (record { term = t; args = vs }) before c before) (o.pures t vs ≡ Some c)

  -- a meaning is what is around the function of a term that is called: it says of constants and extractors what is said outside, and of
  -- pure calls what they come to; it has an answer to each call that the term's rules ask, and tells constants apart
  pub record IsAround (call : Call) (meaning : Meaning) : Type 0 where
    pub literals : (l : Literal) → meaning.literals l ≡ o.literals l
    pub constants : (name : ℕ) → meaning.constants name ≡ o.constants name
    pub extractors : (t : ℕ) (v : Value) → meaning.extractors t v ≡ o.extractors t v
    pub pures : (t : ℕ) (vs : Values) (a : Content) → meaning.pures t vs ≡ Some a → IsPureAnswer t vs a
    pub typed : IsTrue (args_well_typed p.types (arg_types p call.term) (listed call.args))
    pub serves : Serves p meaning (listed call.args) (rules_of p call.term)
    pub apart : TellsConstantsApart p meaning (rules_of p call.term)

  -- the function of a term that isn't multi is called
  pub record IsRun (f : Functions) (call : Call) (before : List Call) (c : Content) (after : List Call) : Type 0 where
    pub known : Contains (terms_with_rules p) call.term
    pub single : is_multi p call.term ≡ false
    pub meaning : Meaning
    pub around : IsAround call meaning
    pub calls : AreMadeCalls meaning 0 (f call.term meaning (listed call.args)).calls before after
    pub answer : IsAnswer (is_partial p call.term) (f call.term meaning (listed call.args)) c

-- a call of a term with rules that isn't multi comes to an answer, by calls that nest so deep at most. Calls of multi terms with rules
-- come to none here
abbrev pub WholeRun : Functions → Program → Outside → ℕ → Call → List Call → Content → List Call → Type 0
WholeRun f p o zero call before c after = ⊥
WholeRun f p o (suc n) call before c after = IsRun (WholeRun f p o n) p o f call before c after
