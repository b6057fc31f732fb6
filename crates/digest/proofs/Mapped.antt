-- What `map` makes of an array.
use Rattle.std.proofs.Common.{◌≡◌, ℕ, ◌<◌, List, map, length, sym, ◌∙◌, arith}
use denote.Param.Members.{Mut}
use Rattle.std.specs.Array.{IsMapOf}
use Rattle.std.specs.Fn.{Called}
use Rattle.std.proofs.lemmas.List.{ext_get_or, get_or-map, length-map}

-- a function of each element, where each call gives that function's value
pub mapped :
    {F A B : Type 0} (g : Mut F (A × Unit {0}) B) (h : A → B) (f : F) (xs : List A) (ys : List B) (n : ℕ) (d : A) (e : B)
    → length xs ≡ n → IsMapOf g f xs ys n
    → ((p : F) (x : A) (y : B) (q : F) → Called g p (x, tt) y q → y ≡ h x)
    → ys ≡ map h xs
mapped g h f xs ys n d e long is call =
    ext_get_or e ys (map h xs) (is.long ∙ sym long ∙ sym (length-map xs h))
    (
    λ k below.
    let here : k < length xs = omega (arith, is.long) in
    let at = is.at k d e (omega arith) in
    call at.0 _ _ at.1 at.2 ∙ sym (get_or-map h xs k d e here)
    )
