mod SureStatuses
