-- What texts have, one text more at a time; and that it goes together.
use Rattle.std.proofs.Common.{◌≡◌, ℕ, suc, ◌+◌, List, [], ◌∷◌, ◌++◌, length, map, refl, sym, ap, ◌∙◌, subst, arith}
use Rattle.std.specs.Prelude.{⊤}
use Rattle.std.proofs.lemmas.List.{append_assoc, length-append, map-append}
use Rattle.std.proofs.lemmas.Grind.{common_steps}
use Rattle.model.specs.lists.Syntax.{Definition}
use Rattle.core_syntax.specs.SyntaxViews.{definition_place, definition_views}
use Rattle.text_reader.specs.Lexemes.{Wrong}
use Rattle.text_reader.specs.RecoveryViews.{wrong_view}
use Rattle.text_reader.specs.SpecViews.{numbered_view}
use Rattle.text_writer.specs.declared.contents.Contents.{Contents}
use Rattle.text_writer.specs.declared.spec_faults.SpecPrintFault.{SpecPrintFault}
use Rattle.text_writer.specs.declared.spec_faults.SpecPrintFault.TheVariants.{Memory, Unspellable, Unmatched}
use Rattle.text_writer.specs.SpecFaults.{IsTrouble}
use Rattle.text_writer.specs.Woven.{AreMatched, Trees, number_by, other_numbers, woven}
use Rattle.text_writer.specs.Contents.{AreOfTexts, TextContents, behind, contents_of_text, contents_of_texts, followed_by}
use Rattle.text_writer.proofs.Matched.{never_unmatched, text_matched}

-- ---- contents behind one another

abbrev pub held : List Definition → Trees → List Wrong → TextContents
held ds vs ms = record { definitions = ds; trees = vs; mistakes = ms }

behind_none : (vs : Trees) → map (behind 0) vs ≡ vs
behind_none [] = refl
behind_none (v ∷ vs) = grind (arith, common_steps, behind_none vs)

behind_both : (m n k : ℕ) → m + n ≡ k → (vs : Trees) → map (behind m) (map (behind n) vs) ≡ map (behind k) vs
behind_both m n k e [] = refl
behind_both m n k e (v ∷ vs) = grind (arith, common_steps, behind_both m n k e vs)

one_more : (first : ℕ) (texts : List (List ℕ)) (text : List ℕ)
    → contents_of_texts first (texts ++ text ∷ []) ≡ followed_by (contents_of_texts first texts) (contents_of_text (first + length texts) text)
one_more first [] text = grind (arith, common_steps, behind_none)
one_more first (t ∷ ts) text = grind (arith, one_more (first + 1) ts text, append_assoc, behind_both, length-append, map-append)

pub text_follows : (texts : List (List ℕ)) (text : List ℕ)
    → contents_of_texts 0 (texts ++ text ∷ []) ≡ followed_by (contents_of_texts 0 texts) (contents_of_text (length texts) text)
text_follows texts text = grind (arith, one_more)

-- ---- definitions and trees go together

abbrev numbers : Trees → List ℕ
numbers vs = map (λ v. v.0) vs

behind_numbers : (k : ℕ) (vs : Trees) → numbers (map (behind k) vs) ≡ map (λ m. k + m) (numbers vs)
behind_numbers k [] = refl
behind_numbers k (v ∷ vs) = ap (λ ns. (k + v.0) ∷ ns) (behind_numbers k vs)

both : {xs ys zs ws : List ℕ} → xs ≡ zs → ys ≡ ws → xs ++ ys ≡ zs ++ ws
both e f = rw (e, f) refl

next_numbers : (ds : List Definition) (k n : ℕ) → map (λ m. k + m) (other_numbers (suc n) ds) ≡ map (λ m. suc k + m) (other_numbers n ds)
next_numbers [] k n = refl
next_numbers (d ∷ ds) k n = grind (arith, common_steps, next_numbers ds k (suc n), map-append, both)

same_numbers : (ns : List ℕ) → ns ≡ map (λ m. 0 + m) ns
same_numbers [] = refl
same_numbers (n ∷ ns) = grind (arith, common_steps, same_numbers ns)

joined_numbers : (ds es : List Definition) (n : ℕ) → other_numbers n (ds ++ es) ≡ other_numbers n ds ++ map (λ m. length ds + m) (other_numbers n es)
joined_numbers [] es n = same_numbers (other_numbers n es)
joined_numbers (d ∷ ds) es n =
    ap (λ ns. number_by (definition_place d) n ++ ns) (joined_numbers ds es (suc n) ∙ ap (λ ns. other_numbers (suc n) ds ++ ns) (next_numbers es (length ds) n))
    ∙ sym (append_assoc (number_by (definition_place d) n) (other_numbers (suc n) ds) (map (λ m. suc (length ds) + m) (other_numbers n es)))

abbrev IsMatched : TextContents → Type 0
IsMatched c = AreMatched 0 c.definitions c.trees

matched_behind : (a b : TextContents) → IsMatched a → IsMatched b → IsMatched (followed_by a b)
matched_behind a b h k =
    map-append (λ v. v.0) a.trees (map (behind (length a.definitions)) b.trees)
    ∙ both h (behind_numbers (length a.definitions) b.trees ∙ ap (map (λ m. length a.definitions + m)) k)
    ∙ sym (joined_numbers a.definitions b.definitions 0)

one_matched : (number : ℕ) (text : List ℕ) → IsMatched (contents_of_text number text)
one_matched number text = grind (arith, text_matched)

all_matched : (number : ℕ) (texts : List (List ℕ)) → IsMatched (contents_of_texts number texts)
all_matched number [] = refl
all_matched number (text ∷ texts) = grind (arith, common_steps, all_matched (number + 1) texts, matched_behind, one_matched)

-- what texts have is woven, or something can't be spelled
pub contents_matched : (texts : List (List ℕ)) (ds : List Definition) (vs : Trees) (ms : List Wrong) → held ds vs ms ≡ contents_of_texts 0 texts → AreMatched 0 ds vs
contents_matched texts ds vs ms e = subst IsMatched (sym e) (all_matched 0 texts)

-- a fault that says that numbers don't go together
abbrev pub IsUnmatched : SpecPrintFault → Type 0
IsUnmatched (Memory e) = ⊥
IsUnmatched (Unspellable p) = ⊥
IsUnmatched (Unmatched n) = ⊤

-- printing what texts have never fails so
pub never_told : (found : Contents) (ds : List Definition) (vs : Trees) (fault : SpecPrintFault) → IsTrouble fault (woven 0 ds vs) → IsUnmatched fault → AreOfTexts found
    → ds ≡ definition_views found.defs.items → vs ≡ map numbered_view found.forms.items → ⊥
never_told found ds vs (Unmatched n) told is of d v =
    never_unmatched 0 ds vs n (subst (λ es. AreMatched 0 es vs) (sym d) (subst (λ ws. AreMatched 0 (definition_views found.defs.items) ws) (sym v) matched)) told
  where
    matched : AreMatched 0 (definition_views found.defs.items) (map numbered_view found.forms.items)
    matched = contents_matched of.0 _ _ (map wrong_view found.mistakes.items) of.1
never_told found ds vs _ told is of d v = is

-- ---- parts of contents that grow

-- what is read of a text is added
pub read_added : (ds new_ds more_ds : List Definition) (vs new_vs more_vs : Trees) (ms new_ms : List Wrong) → new_ds ≡ ds ++ more_ds → new_vs ≡ vs ++ map (behind (length ds)) more_vs → new_ms ≡ ms
    → held new_ds new_vs new_ms ≡ followed_by (held ds vs ms) (held more_ds more_vs [])
read_added ds new_ds more_ds vs new_vs more_vs ms new_ms d v m = grind (arith, common_steps)

-- its mistake is added
pub mistake_added : (ds new_ds : List Definition) (vs new_vs : Trees) (ms new_ms : List Wrong) (mistake : Wrong) → new_ds ≡ ds → new_vs ≡ vs → new_ms ≡ ms ++ mistake ∷ []
    → held new_ds new_vs new_ms ≡ followed_by (held ds vs ms) (held [] [] (mistake ∷ []))
mistake_added ds new_ds vs new_vs ms new_ms mistake d v m = grind (arith, common_steps)
