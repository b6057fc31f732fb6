use Rattle.std.proofs.Common.{◌≡◌, ℕ, ◌+◌, ◌^◌, Bool, true, false, cond, sym, refl, ap, ◌∙◌, add-one, arith}
use lib.Bits.{bit_or}
use Rattle.std.proofs.lemmas.Nat.{or_comm, or_shifted, one_shl}
use Rattle.span.specs.World.{Faulty}
use Rattle.choice.specs.Choice.{choice_of}
use Rattle.choice.specs.Row.{named_by}
use Rattle.choice.proofs.Bits.{choice_below, choice_top}
use Rattle.choice.proofs.Standing.{names_exact}
use Rattle.choice.proofs.row.named.Goals as goal
use Rattle.choice.proofs.row.named.Goals.{then-is_named, else-is_named}

nobody_yet : (p : Faulty) → 0 ≡ choice_of p 0
unfolding choice_of
nobody_yet p = refl

next : (p : Faulty) (n : ℕ) (b : Bool) → b ≡ p n → choice_of p n + cond b (2 ^ n) 0 ≡ choice_of p (n + 1)
next p n b e = ap (λ x. choice_of p n + cond x (2 ^ n) 0) e ∙ sym (choice_top p n) ∙ ap (choice_of p) (sym (add-one n))

with_bit : (p : Faulty) (n : ℕ) → bit_or (choice_of p n) (2 ^ n) ≡ choice_of p n + 2 ^ n
with_bit p n = or_comm (choice_of p n) (2 ^ n) ∙ ap (λ x. bit_or x (choice_of p n)) (omega arith) ∙ or_shifted 1 n (choice_of p n) (choice_below p n) ∙ omega arith

pub loop-server-init : goal.loop-server-init
loop-server-init c = nobody_yet _

pub loop-server-preserved : goal.loop-server-preserved
loop-server-preserved c =
    let p : Faulty = λ v. named_by v c.args.row.now in
    let n = c.loop-server.server in
    elim c.if-is_named.branch [
      | then-is_named w ↦ w.named-is ∙ ap (bit_or c.loop-server.named) (one_shl n 16 (omega (arith, c.requires))) ∙ ap (λ m. bit_or m (2 ^ n)) c.loop-server.invariant ∙ with_bit p n ∙ next p n true w.if-is_named.ensures.value
      | else-is_named w ↦ w.named-is ∙ c.loop-server.invariant ∙ sym (omega arith) ∙ next p n false w.if-is_named.ensures.value
    ]

pub returns : goal.returns
returns c =
    let last : c.loop-server.server ≡ c.args.servers = omega arith in
    let whole = c.loop-server.invariant ∙ ap (choice_of (λ v. named_by v c.args.row.now)) last in
    record { value = whole; exact = names_exact c.args.servers c.args.row.now _ whole }
