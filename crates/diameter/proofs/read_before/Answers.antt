use Rattle.octets.specs.Standard.{arith, rules}
use Rattle.diameter.proofs.Reading.{read_fault, read_whole}
use Rattle.diameter.proofs.read_before.Goals as goal

pub returns-then-end-at : goal.returns-then-end-at
returns-then-end-at c = read_fault _ _ _ (λ h. omega arith)

pub returns-then-left-lt8 : goal.returns-then-left-lt8
returns-then-left-lt8 c = read_fault _ _ _ (λ h. omega arith)

pub returns-then-left-head : goal.returns-then-left-head
returns-then-left-head c = read_fault _ _ _ (λ h. omega arith)

pub returns-then-size-head : goal.returns-then-size-head
returns-then-size-head c = read_fault _ _ _ (λ h. omega arith)

pub returns-then-left-size : goal.returns-then-left-size
returns-then-left-size c = read_fault _ _ _ (λ h. omega arith)

pub returns : goal.returns
returns c = search (rules, read_whole)
