-- The text of definitions and trees that are woven is that of items that they are read from.
use Rattle.std.proofs.Common.{◌≡◌, ℕ, suc, refl, sym, ap, ◌∙◌, subst, List, [], ◌∷◌, ◌++◌, map, append_assoc, arith}
use Rattle.std.specs.Prelude.{true, Result, Ok, IfOk, String, string_bytes}
use Rattle.std.specs.declared.alloc.Global.{Global}
use Rattle.std.specs.List.{list_all}
use Rattle.std.proofs.lemmas.Grind.{common_steps}
use Rattle.model.specs.lists.Syntax.{Definition}
use Rattle.text_writer.specs.ReadsBack.{ReadsBackAs}
use Rattle.text_writer.specs.Texts.{written}
use Rattle.text_writer.specs.Items.{Item, definition_in, trees_from, item_form, item_can_be_spelled, printed_items}
use Rattle.text_writer.specs.Saying.{ReadsBackVerification}
use Rattle.text_writer.specs.declared.spec_faults.SpecPrintFault.{SpecPrintFault}
use Rattle.text_writer.specs.Woven.{Trouble, Trees, item_at, left_behind, before, item_before, woven}
use Rattle.text_writer.proofs.ItemsReadBack.{items_read_back}

-- ---- what an item is made of

-- what an item at this number is made of
pub record IsItem (n : ℕ) (d : Definition) (vs : Trees) (i : Item) : Type 0 where
  pub definition : definition_in i ≡ d
  pub trees : (is : List Item) → trees_from (suc n) is ≡ left_behind d vs → trees_from n (i ∷ is) ≡ vs
  pub spelled : item_can_be_spelled i ≡ true

pub item : (n : ℕ) (d : Definition) (vs : Trees) (i : Item) → item_at n d vs ≡ Ok i → IsItem n d vs i
item n d vs i e = grind (arith, common_steps)

-- ---- all items

pub record AreItems (n : ℕ) (ds : List Definition) (vs : Trees) (text : List ℕ) : Type 0 where
  pub items : List Item
  pub definitions : map definition_in items ≡ ds
  pub trees : trees_from n items ≡ vs
  pub spelled : list_all item_can_be_spelled items ≡ true
  pub printed : printed_items items ≡ text

-- a result that is good, and a text before it
split : (t : List ℕ) (r : Result (List ℕ) Trouble) (text : List ℕ) → before t r ≡ Ok text → (more : List ℕ) × (r ≡ Ok more) × (t ++ more ≡ text)
split t r text e = grind (arith, common_steps)

split_item : (r : Result Item Trouble) (s : Result (List ℕ) Trouble) (text : List ℕ) → item_before r s ≡ Ok text
    → (i : Item) × (r ≡ Ok i) × (before (written (item_form i) ++ 10 ∷ []) s ≡ Ok text)
split_item r s text e = grind (arith, common_steps)

woven_items : (n : ℕ) (ds : List Definition) (vs : Trees) (text : List ℕ) → woven n ds vs ≡ Ok text → AreItems n ds vs text
woven_items n (d ∷ ds) vs text e =
    let one = split_item (item_at n d vs) (woven (suc n) ds (left_behind d vs)) text e in
    let i = one.0 in
    let is = item n d vs i one.1 in
    let more = split (written (item_form i) ++ 10 ∷ []) (woven (suc n) ds (left_behind d vs)) text one.2 in
    let rest = woven_items (suc n) ds (left_behind d vs) more.0 more.1 in
    record {
      items = i ∷ rest.items;
      definitions = pair is.definition rest.definitions;
      trees = is.trees rest.items rest.trees;
      spelled = rw (is.spelled, rest.spelled) refl;
      printed = ap (λ t. written (item_form i) ++ 10 ∷ t) rest.printed ∙ sym (append_assoc (written (item_form i)) (10 ∷ []) more.0) ∙ more.2;
    }
  where
    pair : {x y : Definition} {xs ys : List Definition} → x ≡ y → xs ≡ ys → x ∷ xs ≡ y ∷ ys
    pair e f = rw (e, f) refl
woven_items n ds vs text e = grind arith

woven_reads_back : (ds : List Definition) (vs : Trees) (text : List ℕ) → woven 0 ds vs ≡ Ok text → ReadsBackAs text ds × ReadsBackVerification text vs
woven_reads_back ds vs text e =
    let is = woven_items 0 ds vs text e in
    let back = items_read_back is.items is.spelled in (
      subst (λ t. ReadsBackAs t ds) is.printed (subst (λ l. ReadsBackAs (printed_items is.items) l) is.definitions back.0),
      subst (λ t. ReadsBackVerification t vs) is.printed (subst (λ l. ReadsBackVerification (printed_items is.items) l) is.trees back.1),
    )

pub defined_if_ok : (ds : List Definition) (vs : Trees) (r : Result (String Global) SpecPrintFault) → IfOk r (λ s. woven 0 ds vs ≡ Ok (string_bytes s)) → IfOk r (λ s. ReadsBackAs (string_bytes s) ds)
defined_if_ok ds vs r h = grind (arith, common_steps, woven_reads_back ds vs)

pub said_if_ok : (ds : List Definition) (vs : Trees) (r : Result (String Global) SpecPrintFault) → IfOk r (λ s. woven 0 ds vs ≡ Ok (string_bytes s)) → IfOk r (λ s. ReadsBackVerification (string_bytes s) vs)
said_if_ok ds vs r h = grind (arith, common_steps, woven_reads_back ds vs)
