-- A list filled with as many words as it has places. Assumes nothing.
use Rattle.std.proofs.Common.{◌≡◌, ℕ, List, ◌++◌, length, take, drop, ap, ◌∙◌, append-nil, arith}
use Rattle.std.proofs.lemmas.List.{take_all, drop_all}
use Rattle.wordlog.specs.Bytes.{fitting, filled}

pub all_filled : (ws out : List ℕ) → length ws ≡ length out → filled ws out ≡ ws
all_filled ws out same =
    let n : fitting ws out ≡ length ws = omega arith in
    ap (λ k. take k ws ++ drop k out) n ∙ (λ i. take_all (length ws) ws (omega arith) i ++ drop_all (length ws) out (omega arith) i) ∙ append-nil ws
