-- A number at the front needs no other bytes than those that it is made of.
use Rattle.std.proofs.Common.{◌≡◌, ℕ, List, take, lit<}
use Rattle.std.proofs.lemmas.List.{get_or-take}
use Rattle.wire.specs.Numbers.{number4, number8}

pub number4_of_front : (bs : List ℕ) → number4 (take 4 bs) ≡ number4 bs
unfolding number4
number4_of_front bs =
    let p = get_or-take 4 bs 0 0 (lit< tt) in
    let q = get_or-take 4 bs 1 0 (lit< tt) in
    let r = get_or-take 4 bs 2 0 (lit< tt) in
    let s = get_or-take 4 bs 3 0 (lit< tt) in
    cc

pub number8_of_front : (bs : List ℕ) → number8 (take 8 bs) ≡ number8 bs
unfolding number8
number8_of_front bs =
    let p = get_or-take 8 bs 0 0 (lit< tt) in
    let q = get_or-take 8 bs 1 0 (lit< tt) in
    let r = get_or-take 8 bs 2 0 (lit< tt) in
    let s = get_or-take 8 bs 3 0 (lit< tt) in
    let t = get_or-take 8 bs 4 0 (lit< tt) in
    let u = get_or-take 8 bs 5 0 (lit< tt) in
    let v = get_or-take 8 bs 6 0 (lit< tt) in
    let w = get_or-take 8 bs 7 0 (lit< tt) in
    cc
