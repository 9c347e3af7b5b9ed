-- Where a value may come, what is written of it is its tokens.
use Rattle.std.proofs.Common.{◌≡◌, ◌-◌, List, [], ◌∷◌, ◌++◌, Some, None, refl, sym, ap, ◌∙◌, append_assoc, arith, get_or, length, reverse, slice_get}
use Rattle.std.proofs.lemmas.Option.{slice_get-get_or}
use Rattle.json.specs.Token.{Token}
use Rattle.json.specs.Json.{Json, null, boolean, number, string, array, object, Items, no_items, item, Members, no_members, member}
use Rattle.json.specs.Tree.{json_tokens, items_tokens, members_tokens}
use Rattle.text_json.specs.declared.Place.{Place}
use Rattle.text_json.specs.declared.Place.TheVariants as P
use Rattle.text_json.specs.Nesting.{inside, after_value, nest, nest_inside, nesting, opened, placed}
use Rattle.text_json.specs.Writing.{put, put_end, if_inside, end_inside, end_behind, all_last_tokens, with_value, with_items, with_members}
use Rattle.text_json.proofs.Nesting.{nesting-more}

-- ---- a call that is in place, and one that isn't

pub put_is : (t : Token) (ts : List Token) → put t ts ≡ if_inside (nest (nesting ts) t) (ts ++ t ∷ []) ts
unfolding put
put_is t ts = refl

pub put_end_is : (ts : List Token) → put_end ts ≡ end_inside (nesting ts) ts
unfolding put_end
put_end_is ts = refl

pub ruleset put_steps = (put_is, put_end_is)

pub put_as : (t : Token) (ts : List Token) (outer : List Place) (place : Place) → nesting ts ≡ inside outer place
    → put t ts ≡ if_inside (nest_inside outer place t) (ts ++ t ∷ []) ts
unfolding put
put_as t ts outer place h = ap (λ n. if_inside (nest n t) (ts ++ t ∷ []) ts) h

pub put_end_as : (ts : List Token) (outer : List Place) (place : Place) → nesting ts ≡ inside outer place
    → put_end ts ≡ end_behind outer place ts
unfolding put_end
put_end_as ts outer place h = ap (λ n. end_inside n ts) h

none_left : (places : List Place) → slice_get places (length places - 1) ≡ None → places ≡ []
none_left [] h = refl
none_left (p ∷ places) h =
    let k : Some (get_or (p ∷ places) (length (p ∷ places) - 1) p) ≡ None = sym (slice_get-get_or (p ∷ places) (length (p ∷ places) - 1) p (omega arith)) ∙ h in
    cc

-- the end of the whole isn't written before all is
pub whole_stays : (ts : List Token) (places : List Place) (place : Place) → nesting ts ≡ inside (reverse places) place
    → slice_get places (length places - 1) ≡ None → ts ≡ put_end ts
whole_stays ts places place h k =
    sym (put_end_as ts (reverse places) place h ∙ ap (λ ps. end_behind (reverse ps) place ts) (none_left places k))

-- ---- values in their places

-- calls wrote these tokens, behind which a place is stands
pub record Stands (ts us : List Token) (outer : List Place) (place : Place) : Type 0 where
  pub same : ts ≡ us
  pub stands : nesting ts ≡ inside outer place

put_stands : (t : Token) (ts : List Token) (outer inner : List Place) (place after : Place) → nesting ts ≡ inside outer place
    → nest_inside outer place t ≡ inside inner after → Stands (put t ts) (ts ++ t ∷ []) inner after
put_stands t ts outer inner place after h k =
    let e : put t ts ≡ ts ++ t ∷ [] = put_as t ts outer place h ∙ ap (λ n. if_inside n (ts ++ t ∷ []) ts) k in
    record { same = e; stands = ap nesting e ∙ nesting-more ts t ∙ ap (λ n. nest n t) h ∙ k }

-- the same, up to an end that may come next
pub record StandsOpen (ts us : List Token) (end : Token) (outer : List Place) (place : Place) : Type 0 where
  pub same : ts ++ end ∷ [] ≡ us
  pub stands : nesting ts ≡ inside outer place

one_before : (t : Token) (ts us : List Token) → (ts ++ t ∷ []) ++ us ≡ ts ++ (t ∷ us)
one_before t ts us = append_assoc ts (t ∷ []) us

mutual
  pub value_stands : (j : Json) (ts : List Token) (outer : List Place) (place after : Place) → nesting ts ≡ inside outer place
      → after_value place ≡ Some after → Stands (with_value j ts) (ts ++ json_tokens j) outer after
  value_stands null ts outer place after h k = put_stands Token.null ts outer outer place after h (ap (placed outer) k)
  value_stands (boolean b) ts outer place after h k = put_stands (Token.boolean b) ts outer outer place after h (ap (placed outer) k)
  value_stands (number s) ts outer place after h k = put_stands (Token.number s) ts outer outer place after h (ap (placed outer) k)
  value_stands (string s) ts outer place after h k = put_stands (Token.string s) ts outer outer place after h (ap (placed outer) k)
  value_stands (array js) ts outer place after h k =
      let b = put_stands Token.begin_array ts outer (after ∷ outer) place P.List h (ap (λ o. opened outer o P.List) k) in
      let i = items_stand js (put Token.begin_array ts) (after ∷ outer) b.stands in
      let e : put_end (with_items js (put Token.begin_array ts)) ≡ with_items js (put Token.begin_array ts) ++ Token.end_array ∷ [] =
      put_end_as (with_items js (put Token.begin_array ts)) (after ∷ outer) P.List i.stands in
      record {
        same = e ∙ i.same ∙ ap (λ us. us ++ items_tokens js) b.same ∙ one_before Token.begin_array ts (items_tokens js);
        stands = ap nesting e ∙ nesting-more (with_items js (put Token.begin_array ts)) Token.end_array ∙ ap (λ n. nest n Token.end_array) i.stands;
      }
  value_stands (object ms) ts outer place after h k =
      let b = put_stands Token.begin_object ts outer (after ∷ outer) place P.Object h (ap (λ o. opened outer o P.Object) k) in
      let m = members_stand ms (put Token.begin_object ts) (after ∷ outer) b.stands in
      let e : put_end (with_members ms (put Token.begin_object ts)) ≡ with_members ms (put Token.begin_object ts) ++ Token.end_object ∷ [] =
      put_end_as (with_members ms (put Token.begin_object ts)) (after ∷ outer) P.Object m.stands in
      record {
        same = e ∙ m.same ∙ ap (λ us. us ++ members_tokens ms) b.same ∙ one_before Token.begin_object ts (members_tokens ms);
        stands = ap nesting e ∙ nesting-more (with_members ms (put Token.begin_object ts)) Token.end_object ∙ ap (λ n. nest n Token.end_object) m.stands;
      }

  items_stand : (js : Items) (ts : List Token) (outer : List Place) → nesting ts ≡ inside outer P.List
      → StandsOpen (with_items js ts) (ts ++ items_tokens js) Token.end_array outer P.List
  items_stand no_items ts outer h = record { same = refl; stands = h }
  items_stand (item j js) ts outer h =
      let v = value_stands j ts outer P.List P.List h refl in
      let r = items_stand js (with_value j ts) outer v.stands in
      record {
        same = r.same ∙ ap (λ us. us ++ items_tokens js) v.same ∙ append_assoc ts (json_tokens j) (items_tokens js);
        stands = r.stands;
      }

  pub members_stand : (ms : Members) (ts : List Token) (outer : List Place) → nesting ts ≡ inside outer P.Object
      → StandsOpen (with_members ms ts) (ts ++ members_tokens ms) Token.end_object outer P.Object
  members_stand no_members ts outer h = record { same = refl; stands = h }
  members_stand (member k j ms) ts outer h =
      let b = put_stands (Token.key k) ts outer outer P.Object P.Key h refl in
      let v = value_stands j (put (Token.key k) ts) outer P.Key P.Object b.stands refl in
      let r = members_stand ms (with_value j (put (Token.key k) ts)) outer v.stands in
      let rest = json_tokens j ++ members_tokens ms in
      record {
        same = r.same ∙ ap (λ us. us ++ members_tokens ms) v.same ∙ append_assoc (put (Token.key k) ts) (json_tokens j) (members_tokens ms)
            ∙ ap (λ us. us ++ rest) b.same ∙ one_before (Token.key k) ts rest;
        stands = r.stands;
      }

-- ---- the whole

begun : nesting (Token.begin_object ∷ []) ≡ inside [] P.Object
unfolding nesting
begun = refl

-- members that are written into the whole, and the ends of all that is open then
pub whole_written : (ms : Members) (ts us : List Token) (outer : List Place) (place : Place) → nesting ts ≡ inside outer place
    → ts ≡ with_members ms (Token.begin_object ∷ []) → us ≡ ts ++ all_last_tokens (place ∷ outer) → us ≡ json_tokens (object ms)
whole_written ms ts us outer place h e n =
    let m = members_stand ms (Token.begin_object ∷ []) [] begun in
    let at : inside outer place ≡ inside [] P.Object = sym h ∙ ap nesting e ∙ m.stands in
    let o : outer ≡ [] = cc in
    let p : place ≡ P.Object = cc in
    n ∙ ap (λ vs. vs ++ all_last_tokens (place ∷ outer)) e
    ∙ (λ i. with_members ms (Token.begin_object ∷ []) ++ all_last_tokens (p i ∷ o i)) ∙ m.same
