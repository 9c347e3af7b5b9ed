-- What has each name, with one more thing.
use Rattle.std.proofs.Common.{◌≡◌, ◌≢◌, ℕ, true, false, cond, zero, suc, arith, List, [], ◌∷◌, ◌++◌, length, Option, None, Some, option_map, Result, Ok, Err, OnOk, slice_get, refl, sym, ap, subst, ◌∙◌, ⊎_elim}
use Rattle.std.specs.Prelude.{All}
use Rattle.std.specs.Map.{update}
use Rattle.std.specs.Str.{bytes_eq}
use Rattle.model.proofs.Bytes.{same_bytes, same_self, differ}
use Rattle.model.proofs.Positions.{get_front, get_middle, get_push_cases}
use Rattle.rust_items.specs.Claims.{Claim, AreWrittenApart, IsFirstClash}

-- the look-up gives the thing that has a name
pub record IsHeld (done : List Claim) (look : List ℕ → Option (List ℕ)) : Type 0 where
  pub found : (k : ℕ) (a : Claim) → slice_get done k ≡ Some a → look a.written ≡ Some a.owner
  pub from : (q o : List ℕ) → look q ≡ Some o → (k : ℕ) × (slice_get done k ≡ Some (record { written = q; owner = o }))

module _ (done : List Claim) (look new : List ℕ → Option (List ℕ)) (c : Claim) (i : IsHeld done look) (free : (o : List ℕ) → look c.written ≡ Some o → o ≡ c.owner) (is : (q : List ℕ) → new q ≡ cond (bytes_eq c.written q) (Some c.owner) (look q)) where
  at_same : (q : List ℕ) → bytes_eq c.written q ≡ true → new q ≡ Some c.owner
  at_same q e = is q ∙ ap (λ b. cond b (Some c.owner) (look q)) e

  at_other : (q : List ℕ) → bytes_eq c.written q ≡ false → new q ≡ look q
  at_other q e = is q ∙ ap (λ b. cond b (Some c.owner) (look q)) e

  found_more : (k : ℕ) (a : Claim) → slice_get (done ++ c ∷ []) k ≡ Some a → new a.written ≡ Some a.owner
  found_more k a h =
      elim (bytes_eq c.written a.written) as (λ b. bytes_eq c.written a.written ≡ b → new a.written ≡ Some a.owner) [
        | true ↦ λ e. at_same a.written e ∙ ap Some (⊎_elim
            (λ before. sym (free a.owner (ap look (same_bytes c.written a.written e) ∙ i.found k a before)))
            (λ last. ap (λ (x : Claim). x.owner) last.1)
            (get_push_cases done c a k h))
        | false ↦ λ e. at_other a.written e ∙ ⊎_elim
            (λ before. i.found k a before)
            (λ last. absurd (differ c.written a.written e (ap (λ (x : Claim). x.written) last.1)))
            (get_push_cases done c a k h)
      ] refl

  from_more : (q o : List ℕ) → new q ≡ Some o → (k : ℕ) × (slice_get (done ++ c ∷ []) k ≡ Some (record { written = q; owner = o }))
  from_more q o h =
      elim (bytes_eq c.written q) as (λ b. bytes_eq c.written q ≡ b → (k : ℕ) × (slice_get (done ++ c ∷ []) k ≡ Some (record { written = q; owner = o }))) [
        | true ↦ λ e.
            let same : c.written ≡ q = same_bytes c.written q e in
            let owner : c.owner ≡ o = cc (at_same q e, h) in
            (length done, get_middle done c [] ∙ ap (λ w. Some (record { written = w; owner = c.owner })) same ∙ ap (λ x. Some (record { written = q; owner = x })) owner)
        | false ↦ λ e. let b = i.from q o (sym (at_other q e) ∙ h) in (b.0, get_front done (c ∷ []) b.0 _ b.1)
      ] refl

  pub held_more : IsHeld (done ++ c ∷ []) new
  held_more = record { found = found_more; from = from_more }

pub apart_held : (done : List Claim) (look : List ℕ → Option (List ℕ)) → IsHeld done look → AreWrittenApart done
apart_held done look h = record { apart = λ i j a b p q e. let f = h.found i a p in let g = h.found j b q in let l = ap look e in cc }

pub first_clash : (claims done after : List Claim) (look : List ℕ → Option (List ℕ)) (c : Claim) (o : List ℕ) → claims ≡ done ++ c ∷ after → IsHeld done look → look c.written ≡ Some o → o ≢ c.owner → IsFirstClash claims (record { written = c.written; owner = o }) c
first_clash claims done after look c o parts h at other = record {
  before = done;
  after = after;
  parts = parts;
  apart = apart_held done look h;
  place = (h.from c.written o at).0;
  is_before = (h.from c.written o at).1;
  written = refl;
  owners = other;
}

pub all_one : {X : Type 0} (P : X → Type 0) (x : X) → P x → All P (x ∷ [])
all_one P x h zero d l = h
all_one P x h (suc k) d l = absurd (omega (arith, l))

-- a look-up whose table got one more entry
pub read_updated : {X Y : Type 0} (f : X → Y) (old new : List ℕ → Option X) (name : List ℕ) (w : X) → ((q : List ℕ) → new q ≡ update bytes_eq old name (Some w) q) → (q : List ℕ) → option_map f (new q) ≡ cond (bytes_eq name q) (Some (f w)) (option_map f (old q))
read_updated f old new name w is q =
    ap (option_map f) (is q) ∙ (elim (bytes_eq name q) as (λ b. option_map f (cond b (Some w) (old q)) ≡ cond b (Some (f w)) (option_map f (old q))) [ true ↦ refl | false ↦ refl ])

pub free_kept : {T E : Type 0} (r : Result T E) (found : Option (List ℕ)) (e owner : List ℕ) → found ≡ Some e → OnOk r (e ≡ owner) → OnOk r ((o : List ℕ) → found ≡ Some o → o ≡ owner)
free_kept (Ok x) found e owner f h = λ o g. let s : Some e ≡ Some o = sym f ∙ g in let t : e ≡ o = cc in sym t ∙ h
free_kept (Err y) found e owner f h = h

pub nothing_found : (found : Option (List ℕ)) (o owner : List ℕ) → found ≡ None → found ≡ Some o → o ≡ owner
nothing_found found o owner n h = absurd (let e : None ≡ Some o = sym n ∙ h in cc)
