-- The disk may fail, and memory be wanting, at any place.
use Rattle.std.proofs.Common.{ℕ, List, Option}
use Rattle.tce_outside.specs.Files.{Files}
use Rattle.tce_command.specs.Refusals.{IsFree}
use Rattle.tce_command.specs.declared.refusal.Refusal.{Refusal}
use Rattle.tce_command.specs.declared.refusal.Refusal.TheVariants.{Disk, Memory}
use Rattle.tce_command.specs.Source.{MayRefuseSource}
use Rattle.tce_plan.specs.CertificateRefusals.{IsCertifyRefusal, IsCertifyRefusalIfTold}
use Rattle.tce_plan.specs.EinsumRefusals.{IsEinsumRefusal}

free_of_files : (files : Files) (spec : List ℕ) (refusal : Refusal) → IsFree refusal → IsCertifyRefusal files spec refusal
free_of_files files spec Disk free = tt
free_of_files files spec Memory free = tt
free_of_files files spec refusal free = absurd free

free_of_texts : (spec : List ℕ) (refusal : Refusal) → IsFree refusal → MayRefuseSource spec refusal
free_of_texts spec Disk free = tt
free_of_texts spec Memory free = tt
free_of_texts spec refusal free = absurd free

pub free_of_source : (told : Option Files) (spec : List ℕ) (refusal : Refusal) → IsFree refusal → IsCertifyRefusalIfTold told spec refusal
free_of_source told spec refusal free = (free_of_texts spec refusal free, λ files is. free_of_files files spec refusal free)

pub free_of_einsum : (text path : List ℕ) (refusal : Refusal) → IsFree refusal → IsEinsumRefusal text path refusal
free_of_einsum text path Disk free = tt
free_of_einsum text path Memory free = tt
free_of_einsum text path refusal free = absurd free
