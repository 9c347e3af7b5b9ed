-- Errors that stand where the elements of a list do, noted for one after another.
use Rattle.std.proofs.Common.{◌≡◌, ℕ, ◌<◌, List, [], ◌∷◌, length, get_or, map, Contains, sym}
use Rattle.model.specs.lists.Syntax.{Position}
use Rattle.model.proofs.Members.{in_map}
use Rattle.core_syntax.specs.declared.syntax.Error.{Error}
use Rattle.core_syntax.specs.Positions.{NotesAt}
use Rattle.core_syntax.proofs.Positioned.{among_one, notes_among, notes_both}

-- after what is noted where the element at i stands
pub next_placed : {X Y : Type 0} (at : Y → Position) (view : X → Y) (xs : List X) (i : ℕ) (x : X) → i < length xs → x ≡ get_or xs i x → (a b c : List Error) → NotesAt (map at (map view xs)) a b → NotesAt (at (view x) ∷ []) b c → NotesAt (map at (map view xs)) a c
next_placed at view xs i x h is a b c before this =
    let here : Contains xs x = (i, h, sym is) in
    notes_both (map at (map view xs)) a b c before
    (notes_among (at (view x) ∷ []) (map at (map view xs)) b c (among_one (at (view x)) (map at (map view xs)) (in_map at (map view xs) (view x) (in_map view xs x here))) this)
