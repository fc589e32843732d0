-- How many frames a job has.
use Rattle.std.proofs.Common.{◌≡◌, ℕ, suc, ◌+◌, ◌<◌, ◌≤◌, List, [], ◌∷◌, length, take, get_or, ℤ, refl, sym, ap, subst, arith, length-append}
use Rattle.std.proofs.lemmas.List.Sums.{sum_by-cons, sum_by_more_le}
use Rattle.farm_types.specs.declared.job.LayerSpec.{LayerSpec}
use Rattle.farm_types.specs.Jobs.{frames_from, frames_in, frames_of}

pub length-frames_from : (job layer p : ℕ) (ns : List ℤ) → length (frames_from job layer p ns) ≡ length ns
length-frames_from job layer p [] = refl
length-frames_from job layer p (n ∷ ns) = ap suc (length-frames_from job layer (p + 1) ns)

pub length-frames_of : (job p : ℕ) (ls : List LayerSpec) → length (frames_of job p ls) ≡ frames_in ls
length-frames_of job p [] = refl
length-frames_of job p (l ∷ ls) =
    omega (arith, length-append (frames_from job p 0 l.numbers) (frames_of job (p + 1) ls), length-frames_from job p 0 l.numbers, length-frames_of job (p + 1) ls, sum_by-cons (λ (k : LayerSpec). length k.numbers) l ls)

-- a layer's frames are among those of all
pub enough_for : (ls : List LayerSpec) (i : ℕ) (l : LayerSpec) → i < length ls → l ≡ get_or ls i l → frames_in (take i ls) + length l.numbers ≤ frames_in ls
enough_for ls i l within is = subst (λ (k : LayerSpec). frames_in (take i ls) + length k.numbers ≤ frames_in ls) (sym is) (sum_by_more_le (λ (k : LayerSpec). length k.numbers) ls i l within)
