-- Why a store refuses.
use Rattle.tokens.specs.declared.refusal.Refusal.{Refusal}
use Rattle.tokens.specs.declared.refusal.Refusal.TheVariants.{NoPlace, NoSpare}
use Rattle.stores.specs.declared.fault.StoreFault.{StoreFault}
use Rattle.stores.specs.declared.fault.StoreFault.TheVariants.{Beyond, Full}

-- which refusal a store's fault is
abbrev pub store_refusal : StoreFault → Refusal
store_refusal (Beyond p) = NoPlace
store_refusal (Full p) = NoSpare
