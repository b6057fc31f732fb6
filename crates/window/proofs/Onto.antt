-- Kept moments after older ones: joined, and with a claim put down at one of them.
use Rattle.std.proofs.Common.{◌≡◌, ℕ, suc, ◌+◌, ◌-◌, ◌<◌, List, [], ◌∷◌, ◌++◌, length, get_or, take, drop, set, None, sym, refl, ap, ◌∙◌, add-one, arith, length-drop, take-add}
use Rattle.std.proofs.lemmas.List.{set_split, drop_more, take-append-drop}
use Rattle.span.specs.Model as model
use Rattle.span.specs.Model.{put}
use Rattle.choice.specs.declared.case.Claim.TheVariants.{AtMost}
use Rattle.trail.specs.declared.Moment.{Moment}
use Rattle.trail.specs.Trail.{claims_of, moment_of, onto}
use Rattle.window.specs.Ring.{claimed, nothing}

pub onto_join : (a b : List Moment) (o : List model.Moment) → onto (a ++ b) o ≡ onto b (onto a o)
unfolding onto
onto_join [] b o = refl
onto_join (m ∷ a) b o = onto_join a b (moment_of m ∷ o)

pub onto_push : (w : List Moment) (m : Moment) (o : List model.Moment) → onto (w ++ m ∷ []) o ≡ moment_of m ∷ onto w o
unfolding onto
onto_push w m o = onto_join w (m ∷ []) o

pub onto_two : (k m : ℕ) (w : List Moment) (o : List model.Moment) → onto (take m (drop k w)) (onto (take k w) o) ≡ onto (take (k + m) w) o
onto_two k m w o = sym (onto_join (take k w) (take m (drop k w)) o) ∙ ap (λ l. onto l o) (sym (take-add k m w))

-- a bound is put down past the later moments
put_past : (b : List Moment) (j s t : ℕ) (o : List model.Moment) → put (length b + j) s t (onto b o) ≡ onto b (put j s t o)
unfolding onto put
put_past [] j s t o = ap (λ n. put n s t o) (omega arith)
put_past (m ∷ b) j s t o = ap (λ n. put n s t (onto b (moment_of m ∷ o))) (omega arith) ∙ put_past b (suc j) s t (moment_of m ∷ o)

-- where no claim was put down before
put_at_lem : (s t : ℕ) (m : Moment) (o : List model.Moment) → m.claim ≡ None → put 0 s t (moment_of m ∷ o) ≡ moment_of (claimed (AtMost s t) m) ∷ o
unfolding put
put_at_lem s t m o e = ap (λ c. record { ticks = m.ticks; claims = model.AtMost s t ∷ claims_of c } ∷ o) e

pub put_onto : (w : List Moment) (since s t : ℕ) (o : List model.Moment) → since < length w → (get_or w (length w - 1 - since) nothing).claim ≡ None → put since s t (onto w o) ≡ onto (set w (length w - 1 - since) (claimed (AtMost s t) (get_or w (length w - 1 - since) nothing))) o
unfolding onto
put_onto w since s t o h e =
    let i = length w - 1 - since in
    let m = get_or w i nothing in
    let later = drop (suc i) w in
    let parts : w ≡ take i w ++ m ∷ later = sym (take-append-drop i w) ∙ ap (λ l. take i w ++ l) (drop_more w i nothing (omega arith) ∙ ap (λ n. m ∷ drop n w) (add-one i)) in
    let long : since ≡ length later + 0 = omega (arith, length-drop (suc i) w) in
    ap (λ l. put since s t (onto l o)) parts
    ∙ ap (put since s t) (onto_join (take i w) (m ∷ later) o)
    ∙ ap (λ n. put n s t (onto later (moment_of m ∷ onto (take i w) o))) long
    ∙ put_past later 0 s t (moment_of m ∷ onto (take i w) o)
    ∙ ap (onto later) (put_at_lem s t m (onto (take i w) o) e)
    ∙ sym (onto_join (take i w) (claimed (AtMost s t) m ∷ later) o)
    ∙ ap (λ l. onto l o) (sym (set_split w i (claimed (AtMost s t) m) (omega arith)))
