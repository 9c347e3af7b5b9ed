-- What taking a rule comes to by the contents of its sites: its impure calls in order, then its result.
use Rattle.std.proofs.Common.{◌≡◌, ℕ, suc, ◌+◌, List, [], ◌∷◌, ◌++◌, length, Option, Some, None, is_some, All, IsTrue, refl, sym, ap, arith}
use Rattle.std.proofs.lemmas.List.{length_push}
use Rattle.std.proofs.lemmas.List.Elements.{All-nil}
use Rattle.std.proofs.lemmas.Grind.{common_steps}
use Rattle.model.specs.rules.Values.{Value, Values}
use Rattle.model.specs.rules.Meaning.{Content, Meaning}
use Rattle.model.specs.rules.Outcome.{Call, ended, failed, Outcome}
use Rattle.model.specs.rules.Picks.{Pick, site_content, site_values, HasContent}
use Rattle.model.specs.sites.Sites.{SiteTerm, constructor_call, some_part}

-- the calls made so far, where the next one may be made, or where all has ended
pub data Followed : Type 0 where
  goes_on : (calls : List Call) → Followed
  stops : (calls : List Call) → Followed

abbrev pub then_follow : Followed → (List Call → Followed) → Followed
then_follow (goes_on calls) go = go calls
then_follow (stops calls) go = stops calls

-- a call whose arguments have these values is made, and its answer is there or not
abbrev pub follow_with : ℕ → Option Values → Option Content → List Call → Followed
follow_with t None o calls = stops calls
follow_with t (Some vs) None calls = stops (calls ++ record { term = t; args = vs } ∷ [])
follow_with t (Some vs) (Some c) calls = goes_on (calls ++ record { term = t; args = vs } ∷ [])

-- the call that a site is the answer of, unwrapped or not
abbrev pub answered_call : SiteTerm → SiteTerm
answered_call (some_part a) = a
answered_call s = s

abbrev pub follow_call : Meaning → List Value → Pick → SiteTerm → SiteTerm → List Call → Followed
follow_call m args k u (constructor_call t ss i) calls = follow_with t (site_values m args k ss) (site_content m args k u) calls
follow_call m args k u _ calls = stops calls

-- calls by their answers' sites, one after another
abbrev pub follow : Meaning → List Value → Pick → List SiteTerm → List Call → Followed
follow m args k [] calls = goes_on calls
follow m args k (u ∷ us) calls = then_follow (follow_call m args k u (answered_call u) calls) (follow m args k us)

-- then the result
abbrev pub result_after : Option Content → Followed → Outcome
result_after o (stops calls) = record { calls = calls; results = []; ending = failed }
result_after None (goes_on calls) = record { calls = calls; results = []; ending = failed }
result_after (Some c) (goes_on calls) = record { calls = calls; results = c ∷ []; ending = ended }

same_calls : {a b : List Call} → goes_on a ≡ goes_on b → a ≡ b
same_calls e = cc

never_stops : {a b : List Call} → stops a ≡ goes_on b → ⊥
never_stops e = cc

with_there : (t : ℕ) (o : Option Values) (c : Option Content) (calls after : List Call) → follow_with t o c calls ≡ goes_on after → IsTrue (is_some c) × (length after ≡ suc (length calls))
with_there t o c calls after h = grind (arith, common_steps, never_stops, same_calls, length_push)

one_there : (m : Meaning) (args : List Value) (k : Pick) (u call : SiteTerm) (calls after : List Call) → follow_call m args k u call calls ≡ goes_on after → HasContent m args k u × (length after ≡ suc (length calls))
one_there m args k u call calls after h = grind (arith, common_steps, with_there, never_stops)

follow_next : (f : Followed) (go on : List Call → Followed) (h : List Call → Followed) → ((calls : List Call) → go calls ≡ then_follow (h calls) on) → then_follow f go ≡ then_follow (then_follow f h) on
follow_next f go on h e = grind (arith, common_steps)

-- where all can be followed, each answer has a content, and a call more was made for each
then_there : (m : Meaning) (args : List Value) (k : Pick) (u : SiteTerm) (us : List SiteTerm) (calls after : List Call) (f : Followed) → follow_call m args k u (answered_call u) calls ≡ f → then_follow f (follow m args k us) ≡ goes_on after
    → ((c : List Call) → follow m args k us c ≡ goes_on after → All (HasContent m args k) us × (length after ≡ length us + length c)) → All (HasContent m args k) (u ∷ us) × (length after ≡ suc (length us) + length calls)
then_there m args k u us calls after f e h rest = grind (arith, common_steps, never_stops, one_there)

pub follow_there : (m : Meaning) (args : List Value) (k : Pick) (us : List SiteTerm) (calls after : List Call) → follow m args k us calls ≡ goes_on after
    → All (HasContent m args k) us × (length after ≡ length us + length calls)
follow_there m args k [] calls after h = (All-nil (HasContent m args k), (let same = ap length (same_calls (sym h)) in omega (arith, same)))
follow_there m args k (u ∷ us) calls after h =
    then_there m args k u us calls after (follow_call m args k u (answered_call u) calls) refl h (λ c g. follow_there m args k us c after g)

pub follow_append : (m : Meaning) (args : List Value) (k : Pick) (us vs : List SiteTerm) (calls : List Call) → follow m args k (us ++ vs) calls ≡ then_follow (follow m args k us calls) (follow m args k vs)
follow_append m args k [] vs calls = refl
follow_append m args k (u ∷ us) vs calls = grind (arith, common_steps, follow_append m args k us vs, follow_next)
