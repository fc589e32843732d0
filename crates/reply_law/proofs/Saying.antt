-- What holds of a result: one thing of what it gives, another of its fault.
use Rattle.std.proofs.Common.{◌≡◌, Bool, true, false, cond, Result, Ok, Err}
use Rattle.std.specs.Prelude.{IfOk}
use Rattle.cue_json.specs.Fields.{◌>>=◌}

abbrev pub Says : {A E : Type 0} → (E → Type 0) → (A → Type 0) → Result A E → Type 0
Says F P (Ok x) = P x
Says F P (Err fault) = F fault

-- nothing more is said of what it gives
abbrev pub Any : {A : Type 0} → A → Type 0
Any x = Unit {0}

-- what the first step gives is handed to the next
pub step : {A B E : Type 0} (F : E → Type 0) (P : A → Type 0) (Q : B → Type 0) (r : Result A E) (k : A → Result B E) → Says F P r → ((x : A) → P x → Says F Q (k x)) → Says F Q (r >>= k)
step F P Q (Ok x) k first next = next x first
step F P Q (Err fault) k first next = first

-- one of two results
pub one_of : {A E : Type 0} (F : E → Type 0) (P : A → Type 0) (b : Bool) (x y : Result A E) → Says F P x → Says F P y → Says F P (cond b x y)
one_of F P true x y first second = first
one_of F P false x y first second = second

-- what is known of what it gives
pub with_ok : {A E : Type 0} (F : E → Type 0) (P Q : A → Type 0) (r : Result A E) → Says F P r → IfOk r Q → Says F Q r
with_ok F P Q (Ok x) says ok = ok
with_ok F P Q (Err fault) says ok = says

pub says_weaker : {A E : Type 0} (F G : E → Type 0) (P : A → Type 0) → ((fault : E) → F fault → G fault) → (r : Result A E) → Says F P r → Says G P r
says_weaker F G P less (Ok x) says = says
says_weaker F G P less (Err fault) says = less fault says

pub says_more : {A E : Type 0} (F : E → Type 0) (P Q : A → Type 0) → ((x : A) → P x → Q x) → (r : Result A E) → Says F P r → Says F Q r
says_more F P Q less (Ok x) says = less x says
says_more F P Q less (Err fault) says = says

pub said_ok : {A E : Type 0} (F : E → Type 0) (P : A → Type 0) (r : Result A E) (x : A) → Says F P r → r ≡ Ok x → P x
said_ok F P (Ok y) x says is = let same : y ≡ x = cc in rw (← same) says
said_ok F P (Err fault) x says is = absurd (cc)

pub said_fault : {A E : Type 0} (F : E → Type 0) (P : A → Type 0) (r : Result A E) (fault : E) → Says F P r → r ≡ Err fault → F fault
said_fault F P (Err y) fault says is = let same : y ≡ fault = cc in rw (← same) says
said_fault F P (Ok x) fault says is = absurd (cc)
