-- The part of a reply that is signed: the 46 bytes before the signature.
use Rattle.std.specs.Prelude.{◌≡◌, ℕ, List, ◌∷◌, ◌++◌, length, take, drop}
use Rattle.wire.specs.Numbers.{be4, be8}
use Rattle.wire.specs.Inputs.{bytes_of, reply}
use Rattle.wire.specs.declared.input.Reading.{Reading}
use Rattle.wire.specs.declared.input.Reply.{Reply}

-- kind, server, nonce, midpoint and radius
abbrev pub front_of : Reading → List ℕ
front_of r = 2 ∷ r.server ∷ (r.nonce ++ (be8 r.midpoint ++ be4 r.radius))

-- a reply's first 46 bytes are those, and the rest is its signature
abbrev pub ReplyParts : Type 0
ReplyParts = (r : Reply) → length r.reading.nonce ≡ 32
    → (take 46 (bytes_of (reply r)) ≡ front_of r.reading) × (drop 46 (bytes_of (reply r)) ≡ r.signature)
