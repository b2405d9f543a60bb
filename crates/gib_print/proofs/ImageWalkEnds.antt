-- How the walk over an image ends.
use Rattle.std.proofs.Common.{◌≡◌, ℕ, ◌+◌, ◌-◌, ◌*◌, ◌<◌, ◌≤◌, List, [], ◌∷◌, ◌++◌, subst, ◌∙◌, arith, append-nil}
use Rattle.gib_types.specs.declared.table.TyId.{TyId}
use Rattle.gib_types.specs.Layout.{LaidOut}
use Rattle.gib_types.specs.Tree as d
use Rattle.std.specs.Prelude.{if◌then◌else◌, ◌⊎◌}
use Rattle.gib_print.proofs.ImageStore.{stands}
use Rattle.gib_file.specs.Packed.{tree}
use Rattle.gib_print.specs.ImageReading.{IsBad, Fails, too_many, refused}
use Rattle.gib_print.specs.ImageWalk.{Goes, Stops, Walks, Refuses, FailsWith, Comes}
use Rattle.gib_print.specs.ImageWalk as w
use Rattle.gib_print.specs.declared.image_fault.ImageFault.{ImageFault}
use Rattle.gib_print.specs.declared.image_fault.ImageFault.TheVariants.{Memory, Head, Bad, Long}
use Rattle.gib_print.specs.declared.due.Due.{Due}
use Rattle.gib_print.specs.declared.due.Due.TheVariants.{Item, From, Stored}

-- ---- the ends of the walk

pub walks_start : {laid : LaidOut} {chunks : List ℕ} (t : TyId) (a : ℕ) → Walks laid chunks t a (Item t ∷ []) 0 a []
walks_start t a = record { goes = λ rest g. g; stops = λ fault s. s }

pub walks_go_on : {laid : LaidOut} {chunks : List ℕ} {t : TyId} {start c a b : ℕ} {due : List Due} {out : List ℕ} → Walks laid chunks t start (From b ∷ due) c a out → Walks laid chunks t start due c b out
walks_go_on k = record { goes = λ rest g. k.goes rest (w.go_on g); stops = λ fault s. k.stops fault (w.go_on s) }

-- a place is compared
pub walks_right : {laid : LaidOut} {chunks : List ℕ} {t : TyId} {start c a p q : ℕ} {due : List Due} {out : List ℕ} → Walks laid chunks t start (Stored p q ∷ due) c a out → q ≡ a → Walks laid chunks t start due c a out
walks_right k e = record { goes = λ rest g. k.goes rest (w.right e g); stops = λ fault s. k.stops fault (w.right e s) }

only_fault : {laid : LaidOut} {chunks : List ℕ} {t : TyId} {c a : ℕ} {fault : ImageFault} → Stops laid chunks (Item t ∷ []) c a fault → Fails laid chunks c a t.0 fault
only_fault (w.this f) = f
only_fault (w.later d le s) = elim s [ ]

pub walks_wrong : {laid : LaidOut} {chunks : List ℕ} {t : TyId} {start c a p q : ℕ} {due : List Due} {out : List ℕ} → Walks laid chunks t start (Stored p q ∷ due) c a out → (q ≡ a → ⊥) → Fails laid chunks 0 start t.0 (Bad p)
walks_wrong k ne = only_fault (k.stops (Bad _) (w.wrong ne))

pub walks_refused : {laid : LaidOut} {chunks : List ℕ} {t u : TyId} {start c a p : ℕ} {due : List Due} {out : List ℕ} → Walks laid chunks t start (Item u ∷ due) c a out → c < 16777216 → IsBad laid chunks a u.0 p
    → Fails laid chunks 0 start t.0 (Bad p)
walks_refused k lt bad = only_fault (k.stops (Bad _) (w.this (refused lt bad)))

pub walks_faulty : {laid : LaidOut} {chunks : List ℕ} {t u : TyId} {start c a : ℕ} {due : List Due} {out : List ℕ} (fault : ImageFault) → Walks laid chunks t start (Item u ∷ due) c a out → c < 16777216
    → Refuses laid chunks a u.0 fault → FailsWith laid chunks start t.0 fault
walks_faulty Memory k lt r = tt {0}
walks_faulty Head k lt r = absurd r
walks_faulty (Bad p) k lt r = walks_refused k lt r
walks_faulty Long k lt r = absurd r

pub walks_too_many : {laid : LaidOut} {chunks : List ℕ} {t u : TyId} {start c a : ℕ} {due : List Due} {out : List ℕ} → Walks laid chunks t start (Item u ∷ due) c a out → 16777216 ≤ c
    → Fails laid chunks 0 start t.0 Long
walks_too_many k le = only_fault (k.stops Long (w.this (too_many le)))

only_value : {laid : LaidOut} {chunks : List ℕ} {t : TyId} {a : ℕ} {bytes : List ℕ} → Goes laid chunks (Item t ∷ []) 0 a bytes → Comes laid chunks a t.0 bytes
only_value (w.item {v = v} d (w.end le)) = record { value = v; there = record { after = _; stands = d; few = omega (arith, le) }; is = append-nil (tree v) }

pub walks_end : {laid : LaidOut} {chunks : List ℕ} {t : TyId} {start c a : ℕ} {out : List ℕ} → Walks laid chunks t start [] c a out → c ≤ 16777216 → Comes laid chunks start t.0 out
walks_end {laid = laid} {chunks = chunks} {t = t} {start = start} {out = out} k le =
    subst (λ (bytes : List ℕ). Comes laid chunks start t.0 bytes) (append-nil out) (only_value (k.goes [] (w.end le)))
